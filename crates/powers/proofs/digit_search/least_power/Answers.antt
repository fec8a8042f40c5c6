-- `digit_search::least_power` meets its contract. Assumes nothing.
use Prim.Native.Nat.{ℕ}
use mathlib.Core.Logic.{◌⊎◌, inl, inr}
use mathlib.Core.Path.{◌≡◌, sym, ap, subst, ◌∙◌}
use mathlib.Core.Bool.{Bool, false}
use mathlib.Core.List.{List}
use native.Mathlib.Omega.{arith}
use borrow.Author.Rules.{rules}
use Rattle.meaning.specs.Polynomial.{degree}
use Rattle.bridge.proofs.Basics.Searches.{true-T, false-T}
use Rattle.bridge.proofs.Sequences.KnownActions.{all_zero}
use Rattle.arith.specs.declared.field.GaloisField.{GaloisField}
use Rattle.arith.proofs.Represented.{field-is_field}
use Rattle.lent.specs.declared.levels.Level.{Level}
use Rattle.lent.specs.halves.Halves.{half}
use Rattle.lent.proofs.halves.Bytes.{lent-half, acted-values, acted-same, acted_halves, acted-again}
use Rattle.lent.proofs.halves.Bytes.{acted-zero, acted-nonzero, acted-enough, acted-kept}
use Rattle.lent.proofs.halves.Bytes.{kept_trans}
use Rattle.powers.proofs.digit_search.Trying.{Trying, Tried, trying_more, trying_stop}
use Rattle.powers.proofs.digit_search.Trying.{trying_all}
use Rattle.powers.proofs.digit_search.Seeking.{Seeking, Going, seeking_start, seeking_zero}
use Rattle.powers.proofs.digit_search.Seeking.{seeking_first, seeking_later, going_end}
use Rattle.powers.proofs.digit_search.Seeking.{Below, near_below, going_next}
use Rattle.powers.proofs.digit_search.least_power.Goals as goal
use Rattle.powers.proofs.digit_search.least_power.Goals.{then-power-eq0, else-power-eq0}
use Rattle.powers.proofs.digit_search.least_power.Goals.{else-loop-digit-test}
use Rattle.powers.proofs.digit_search.least_power.Goals.{then-loop-digit-test+else-not-act_at_level}

-- a level is begun: it is zero, or something is left
pub levels-init : goal.levels-init
levels-init c =
    seeking_start c.args.field c.args.f.now c.args.level c.requires.halves
    c.requires.searchable.is_level.base

-- something is left where the test for zeros fails, and the power is at least 1 from then on
left :
    {field : GaloisField} {f : List ℕ} {e top : ℕ} {s w₀ w : List ℕ} {at count : ℕ} {level : Level}
    {r r' : ℕ} {b : Bool}
    → Seeking field f e top s w₀ w at count level r
    → b ≡ all_zero (half w at count)
    → b ≡ false
    → ((r ≡ 0) × (r' ≡ 1)) ⊎ ((r ≡ 0 → ⊥) × (r' ≡ r))
    → Going field f e top s w₀ w at count level r'
left x z n (inl (h, e)) =
    subst (Going _ _ _ _ _ _ _ _ _ _) (sym e) (seeking_first x (false-T (sym z ∙ n)) h)
left x z n (inr (h, e)) = subst (Going _ _ _ _ _ _ _ _ _ _) (sym e) (seeking_later x h)

pub returns-then-all_zero : goal.returns-then-all_zero
returns-then-all_zero c =
    let z = c.all_zero.ensures ∙ ap all_zero (lent-half c.levels.work c.levels.at.half c.levels.at.count) in
    record {
      power = seeking_zero c.levels.invariant (true-T (sym z ∙ c.if-all_zero.true));
      kept = c.levels.invariant.kept;
    }

pub returns-then-level-eq0 : goal.returns-then-level-eq0
returns-then-level-eq0 c =
    let x = left {r' = c.if-power-eq0.power} c.levels.invariant
    (c.all_zero.ensures ∙ ap all_zero (lent-half c.levels.work c.levels.at.half c.levels.at.count))
    c.if-all_zero.false
    (elim c.if-power-eq0.branch [
      | then-power-eq0 w ↦ inl (w.if-power-eq0.true, w.power-is)
      | else-power-eq0 w ↦ inr (w.if-power-eq0.false, w.power-is)
    ]) in
    record { power = going_end x c.if-level-eq0.true; kept = x.kept }

-- what is asked of the level below
pub act_at_level-requires-clause-levelled : goal.act_at_level-requires-clause-levelled
act_at_level-requires-clause-levelled c =
    let s = c.requires.searchable in
    let i = c.levels.invariant in
    record {
      elements = s.elements;
      nonempty = s.nonempty;
      short = s.short;
      base = c.previous-level.ensures.0 ∙ i.base;
      near =
          near_below c.levels.level c.levels.power i.bound (rw i.base s.near) c.previous-level.ensures.2;
    }

pub overflow_sub-at-in-loop-digit : goal.overflow_sub-at-in-loop-digit
unfolding degree
overflow_sub-at-in-loop-digit c =
    omega (
      arith,
      acted-enough (field-is_field c.args.field) c.args.f.now c.requires.searchable.nonempty
          c.previous-level.result.power c.loop-digit.invariant.halves c.act_at_level.ensures
          c.if-not-act_at_level.true,
    )

pub loop-digit-preserved : goal.loop-digit-preserved
unfolding degree
loop-digit-preserved c =
    let I = field-is_field c.args.field in
    let f = c.args.f.now in
    let e = c.requires.searchable.nonempty in
    let q = c.previous-level.result.power in
    let i = c.loop-digit.invariant in
    let x = c.act_at_level.ensures in
    record {
      tried =
          subst (Trying _ _ _ _ _) (sym (acted-values I f e q i.halves x))
          (trying_more _ _ _ _ i.tried (search rules)
          (acted-nonzero I f e q i.halves x c.if-not-act_at_level.true));
      halves = acted_halves I f e q i.halves x;
      kept = kept_trans i.kept (acted-kept I f e q i.halves x);
    }

pub levels-preserved : goal.levels-preserved
unfolding degree
levels-preserved c =
    let I = field-is_field c.args.field in
    let f = c.args.f.now in
    let e = c.requires.searchable.nonempty in
    let q = c.previous-level.result.power in
    let x = left {r' = c.if-power-eq0.power} c.levels.invariant
    (c.all_zero.ensures ∙ ap all_zero (lent-half c.levels.work c.levels.at.half c.levels.at.count))
    c.if-all_zero.false
    (elim c.if-power-eq0.branch [
      | then-power-eq0 w ↦ inl (w.if-power-eq0.true, w.power-is)
      | else-power-eq0 w ↦ inr (w.if-power-eq0.false, w.power-is)
    ]) in
    let b : Below c.levels.level c.previous-level.result =
    record {
      base = c.previous-level.ensures.0;
      exponent = c.previous-level.ensures.1;
      power = c.previous-level.ensures.2;
    } in
    let i = c.loop-digit.invariant in
    rw c.min.ensures
    (elim c.loop-digit-test.branch [
      | else-loop-digit-test w ↦
          rw w.work-is
          (going_next x b i.halves i.kept (trying_all _ _ _ _ i.tried (omega (arith, i.tried.low))))
      | then-loop-digit-test+else-not-act_at_level w ↦
          let y = w.act_at_level.ensures in
          rw w.work-is
          (going_next x b (acted-again I f e q i.halves y)
          (kept_trans i.kept (acted-kept I f e q i.halves y))
          (subst (Tried _ _ _ _ c.loop-digit.digit) (sym (acted-same I f e q i.halves y))
          (trying_stop _ _ _ _ i.tried (acted-zero I f e q i.halves y w.if-not-act_at_level.false))))
    ])

-- `search::settle` meets its contract: of no factor, of one, or of both halves of the factors. Assumes
-- nothing.
use native.Mathlib.Omega.{arith}
use Prim.Native.Nat.{ℕ, ◌/◌}
use mathlib.Core.Path.{◌≡◌, sym, ap, ◌∙◌}
use mathlib.Core.List.{List}
use denote.Ref.{Bor}
use lib.ListN.{length, take, drop, length-take, length-drop}
use Rattle.meaning.specs.Conditions.{named, total_degree}
use Rattle.meaning.specs.Slices.{lists_of}
use Rattle.meaning.proofs.Slices.{lists_length}
use Rattle.arith.specs.declared.field.GaloisField.{GaloisField}
use Rattle.arith.specs.Represented.{field_of}
use Rattle.arith.proofs.Represented.{field-is_field}
use Rattle.set_way.specs.actions.SetActions.{SetInput}
use Rattle.set_way.proofs.actions.Inputs.{enough_uppers}
use Rattle.set_way.proofs.search.Parts.{HalvedInput, halved, first-whole, second-whole}
use Rattle.set_way.proofs.search.Parts.{first-left, first-length, first_rest, second-left}
use Rattle.set_way.proofs.search.Parts.{second-length, second-rest, parts-settled, none-settled}
use Rattle.set_way.proofs.search.Parts.{alone_settled, rest-length, both-places}
use Rattle.set_way.proofs.search.+settle.Goals as goal

-- the factors and their upper powers up to the half, and from it on
halves :
    (field : GaloisField) (fs : List (Bor (List ℕ))) {us ts : List ℕ} (m : ℕ)
    {fs₁ fs₂ : List (Bor (List ℕ))} {us₁ us₂ : List ℕ}
    → SetInput (field_of field) (lists_of fs) us ts
    → length ts ≡ total_degree (named (lists_of fs) us)
    → (fs₁ ≡ take m fs) × (us₁ ≡ take m us)
    → (fs₂ ≡ drop m fs) × (us₂ ≡ drop m us)
    → HalvedInput (field_of field) (lists_of fs) us ts (lists_of fs₁) us₁ (lists_of fs₂) us₂
halves field fs {us} m input exact first second =
    record {
      field = field-is_field field;
      input = input;
      exact = exact;
      parts = halved fs us m first second;
    }

-- the places of the first half
halfway : (xs : List ℕ) {n : ℕ} → length xs ≡ n → length (take (n / 2) xs) ≡ n / 2
halfway xs {n} e = omega (arith, length-take (n / 2) xs)

pub returns-then-n-eq0 : goal.returns-then-n-eq0
returns-then-n-eq0 t c =
    let e = lists_length c.args.set.factors.now in
    none-settled (field-is_field c.args.field) c.requires.set_input (e ∙ c.if-n-eq0.true)
    (c.requires.powers_len ∙ sym e)

pub returns-then-n-eq1 : goal.returns-then-n-eq1
returns-then-n-eq1 t c =
    alone_settled c.args.powers.now c.power_alone.ensures (c.requires.powers_len ∙ c.if-n-eq1.true)

pub split_at-requires : goal.split_at-requires
split_at-requires t c = (
  omega arith,
  omega (arith, enough_uppers c.requires.set_input, lists_length c.args.set.factors.now),
)

pub act_all-left-requires-clause-set_input : goal.act_all-left-requires-clause-set_input
act_all-left-requires-clause-set_input t c =
    let h =
    halves c.args.field c.args.set.factors.now _ c.requires.set_input c.requires.terms_len
    c.split_at.ensures.first c.split_at.ensures.second in
    second-whole h

pub settle-requires : goal.settle-requires
settle-requires t c =
    let h =
    halves c.args.field c.args.set.factors.now _ c.requires.set_input c.requires.terms_len
    c.split_at.ensures.first c.split_at.ensures.second in
    let n = ap length c.split_at.ensures.first.0 in
    let k = length-take (length c.args.set.factors.now / 2) c.args.set.factors.now in (
      omega (arith, n, k, c.if-n-eq0.false, c.if-n-eq1.false),
      (
        first_rest h c.act_all-left.ensures,
        (
          first-length h c.act_all-left.ensures,
          omega (
            arith,
            n,
            k,
            c.requires.powers_len,
            length-take (length c.args.set.factors.now / 2) c.args.powers.now,
          ),
        ),
      ),
    )

pub act_all-other-requires-clause-set_input : goal.act_all-other-requires-clause-set_input
act_all-other-requires-clause-set_input t c =
    let h =
    halves c.args.field c.args.set.factors.now _ c.requires.set_input c.requires.terms_len
    c.split_at.ensures.first c.split_at.ensures.second in
    first-whole h

pub settle-requires-2 : goal.settle-requires-2
settle-requires-2 t c =
    let h =
    halves c.args.field c.args.set.factors.now _ c.requires.set_input c.requires.terms_len
    c.split_at.ensures.first c.split_at.ensures.second in
    let n = ap length c.split_at.ensures.second.0 in
    let k = length-drop (length c.args.set.factors.now / 2) c.args.set.factors.now in (
      omega (arith, n, k, c.if-n-eq0.false, c.if-n-eq1.false),
      (
        second-rest h c.act_all-other.ensures,
        (
          second-length h c.act_all-other.ensures,
          rest-length c.settle.new.powers c.args.powers.now _
              (c.settle.auto.powers ∙ halfway c.args.powers.now c.requires.powers_len)
              ∙ omega (arith, n, k, c.requires.powers_len),
        ),
      ),
    )

pub returns : goal.returns
returns t c =
    let h =
    halves c.args.field c.args.set.factors.now _ c.requires.set_input c.requires.terms_len
    c.split_at.ensures.first c.split_at.ensures.second in
    parts-settled h (first-left h c.act_all-left.ensures) (second-left h c.act_all-other.ensures)
    c.settle.ensures c.settle-2.ensures
    (both-places c.settle.new.powers c.settle-2.new.powers c.args.powers.now _
    (c.settle.auto.powers ∙ halfway c.args.powers.now c.requires.powers_len))

-- `payload::gather_terms` meets its contract. The count and the number of the terms that are left are all,
-- their stores leave what all stores leave, and no more terms were counted than bytes were read.
-- Assumes nothing.
use mathlib.Core.Path.{sym, ap, ◌∙◌}
use native.Mathlib.Omega.{arith}
use lib.ListN.{length}
use lib.Seq.{sets}
use Rattle.meaning.specs.File.{terms_of}
use Rattle.route.specs.framing.Iterating.{left, size_of}
use Rattle.route.proofs.framing.Frames.{records-size}
use Rattle.route.proofs.payload.Terms.{count_split, stores_split, size_split}
use Rattle.route.proofs.payload.gather_terms.Goals as goal

pub loop-record-init : goal.loop-record-init
loop-record-init c =
    let i = c.into_iter-record-iterator.ensures.into_iter_gives in
    let e = ap left i ∙ c.of-record-items.ensures in record {
      count = omega (arith, ap (λ rs. length (terms_of rs)) e);
      stores = ap (λ rs. sets c.args.terms.now 0 (terms_of rs)) e;
      few = omega (arith, ap size_of e, records-size c.args.file.now);
    }

pub loop-record-preserved : goal.loop-record-preserved
loop-record-preserved c =
    let e = c.in-Some.ensures.steps in
    let rs = left c.next.new.self in record {
      count =
          omega (
            arith,
            ap (λ rs. length (terms_of rs)) e,
            count_split c.terms_in-found.ensures rs,
            c.loop-record.invariant.count,
          );
      stores =
          rw c.lay.ensures
          (sym (stores_split c.terms_in-found.ensures rs c.loop-record.terms c.loop-record.count)
          ∙ sym (ap (λ rs. sets c.loop-record.terms c.loop-record.count (terms_of rs)) e)
          ∙ c.loop-record.invariant.stores);
      few = omega (arith, ap size_of e, size_split c.terms_in-found.ensures rs, c.loop-record.invariant.few);
    }

pub returns : goal.returns
unfolding terms_of
returns c =
    let e = c.in-None.ensures.steps.0 in record {
      count = omega (arith, c.loop-record.invariant.count, ap (λ rs. length (terms_of rs)) e);
      bytes =
          sym (ap (λ rs. sets c.loop-record.terms c.loop-record.count (terms_of rs)) e)
          ∙ c.loop-record.invariant.stores;
    }

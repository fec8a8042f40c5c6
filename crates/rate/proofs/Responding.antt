-- The response, from the contracts of rate_file and print_rating.
-- Assumes nothing.
use Prim.Native.Nat.{ℕ, ◌<◌}
use native.Mathlib.Omega.{arith}
use mathlib.Core.Path.{◌≡◌, sym, ap, ◌∙◌}
use mathlib.Core.List.{List, ◌++◌}
use lib.ListN.{length, take, drop, length-append}
use lib.Seq.{take_at}
use Rattle.meaning.specs.declared.FileRating.{FileRating}
use Rattle.meaning.specs.Result.{written}
use Rattle.meaning.specs.Calls.{FileCall}
use Rattle.meaning.specs.Print.{printed}
use Rattle.meaning.specs.Program.{lines_of, PrintCall, Response}
use Rattle.printing.proofs.lines.FileResults.{printed-lines}
use Rattle.rate.proofs.Cuts.{printed-cut}

pub respond_call :
    (buffer : List ℕ) (count : ℕ) {file answer work answer' work' out out' : List ℕ} {r : FileRating} {n : ℕ}
    → 16384 < length buffer
    → file ≡ take count buffer
    → length answer ≡ 4097
    → length work ≡ 8192
    → FileCall file answer work r answer' work'
    → PrintCall r answer' out n out'
    → Response buffer count n out'
unfolding written
respond_call buffer count {file} {answer} {work} {answer'} {work'} {out} {out'} {r} {n} long read a w f p =
    let text = lines_of r answer' in
    let front : take n out' ≡ text =
    ap (take n) p.bytes ∙ take_at text (drop (length text) out) n (sym p.count) in
    let size : length out' ≡ length (text ++ drop (length text) out) = ap length p.bytes in
    record {
      fits = omega (arith, size, length-append text (drop (length text) out), p.count);
      counted = p.count ∙ sym (ap length front);
      printed =
          λ input e.
          let same : file ≡ take (length buffer) input = read ∙ e in
          record {
            lines =
                front
                ∙ printed-lines file answer work r answer' work' f a w
                ∙ ap printed same
                ∙ printed-cut (length buffer) input long;
          };
    }

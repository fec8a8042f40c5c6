-- What the program prints for a file is decided by its first bytes, as far as they are more than 16,384.
--
--   printed-cut       == the lines of a file and of its first k bytes are the same, for k above 16,384
-- Assumes nothing.
use Prim.Native.Nat.{ℕ, ◌<◌}
use native.Mathlib.Decide.{dec_le}
use native.Mathlib.Omega.{arith}
use mathlib.Core.Path.{◌≡◌, sym, ap, ◌∙◌}
use mathlib.Core.List.{List}
use lib.ListN.{length, take}
use lib.Seq.{take_all, length-take-le}
use Rattle.meaning.specs.Route.{records, box_of}
use Rattle.meaning.specs.File.{rate_file}
use Rattle.meaning.specs.Print.{report, printed}
use Rattle.route.proofs.payload.Numbers.{box-long}
use Rattle.bridge.proofs.Files.Records.{records-long}

module _ (k : ℕ) (file : List ℕ) (long : 16384 < k) where
  -- where the file has more than k bytes, both are too long
  cut-long : (length file < k → ⊥) → 16384 < length (take k file)
  cut-long l = omega (arith, length-take-le k file (omega arith))

  records-cut : records (take k file) ≡ records file
  records-cut = elim (dec_le (length file) k) [
    | yes l ↦ ap records (take_all k file l)
    | no l ↦
        records-long (take k file) (cut-long (λ z. omega arith)) ∙ sym (records-long file (omega arith))
  ]

  box-cut : box_of (take k file) ≡ box_of file
  box-cut = elim (dec_le (length file) k) [
    | yes l ↦ ap box_of (take_all k file l)
    | no l ↦ sym (box-long (take k file) (cut-long (λ z. omega arith))) ∙ box-long file (omega arith)
  ]

  rate_cut : (answer work : ℕ) → rate_file (take k file) answer work ≡ rate_file file answer work
  unfolding rate_file
  rate_cut answer work = rw (records-cut, rate_file)

  pub printed-cut : printed (take k file) ≡ printed file
  unfolding printed
  printed-cut =
      ap (λ box. report box (rate_file (take k file) 4097 8192)) box-cut
      ∙ ap (report (box_of file)) (rate_cut 4097 8192)

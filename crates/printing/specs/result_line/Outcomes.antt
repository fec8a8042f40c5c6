-- What the contracts of the result line cite.
--
--   degree_of o, denominator_of o, label_of o == the figures of a rated file
--   started box d m   == the start of the result line of a rating, up to the blank before its last word
use Rattle.std.specs.Prelude.{ℕ, List, ◌++◌, take}
use Rattle.meaning.specs.declared.FileOutcome.{FileOutcome}
use Rattle.meaning.specs.File.{Label, powers, unique, several}
use Rattle.meaning.specs.Print.{text, decimal}

abbrev pub degree_of : FileOutcome → ℕ
degree_of (FileOutcome.Powers d m n rs) = d
degree_of (FileOutcome.Unique d m) = d
degree_of (FileOutcome.Several d m) = d

abbrev pub denominator_of : FileOutcome → ℕ
denominator_of (FileOutcome.Powers d m n rs) = m
denominator_of (FileOutcome.Unique d m) = m
denominator_of (FileOutcome.Several d m) = m

abbrev pub label_of : FileOutcome → Label
label_of (FileOutcome.Powers d m n rs) = powers (take n rs)
label_of (FileOutcome.Unique d m) = unique
label_of (FileOutcome.Several d m) = several

abbrev pub started : ℕ → ℕ → ℕ → List ℕ
started box d m = decimal box ++ (text " ok " ++ (decimal d ++ (text "/" ++ (decimal m ++ text " "))))

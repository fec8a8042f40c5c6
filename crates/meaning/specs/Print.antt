-- The lines that the rating program prints, as lists of bytes. Each line ends with one line feed; one blank
-- stands between two words and none at the end.
--
--   text s            == the bytes of a text of ASCII characters
--   decimal n         == the decimal digits of n, the most significant first; `0` for 0
--   joined sep ws     == the words with the separator between them
--   header            == the header line
--   result_line box r  == the result line: the box, `ok`, the density and the label, or the box and the
--                        refusal
--   poly_line r        == the line of coefficients, constant first; nothing where refused
--   printed file      == all that the program prints for a file
use Rattle.std.specs.Prelude.{ℕ, zero, suc, ◌+◌, ◌/◌, ◌%◌, true, false, List, [], ◌∷◌, ◌++◌, map, ltb}
use Prim.Native.Char.{code}
use Prim.Native.String.{String}
use Rattle.meaning.specs.Result.{Result, refused, answered, Rated}
use Rattle.meaning.specs.Route.{box_of}
use Rattle.meaning.specs.File.{Label, powers, unique, several, FileFigures, rate_file}

unfoldable pub text : String → List ℕ
text String.[] = []
text (String.◌∷◌ c s) = code c ∷ text s

-- the digits by repeated division, at most `most` of them
unfoldable pub digits : ℕ → ℕ → List ℕ
digits zero n = []
digits (suc most) n =
    elim (ltb n 10) [ true ↦ (48 + n) ∷ [] | false ↦ digits most (n / 10) ++ ((48 + n % 10) ∷ []) ]

unfoldable pub decimal : ℕ → List ℕ
decimal n = digits (suc n) n

unfoldable pub joined : List ℕ → List (List ℕ) → List ℕ
joined sep [] = []
joined sep (w ∷ ws) = elim ws [ [] ↦ w | v ∷ vs ↦ w ++ (sep ++ joined sep ws) ]

unfoldable pub line : List (List ℕ) → List ℕ
line words = joined (text " ") words ++ text "\n"

unfoldable pub header : List ℕ
header = text "box result density powers\n"

unfoldable pub label_word : Label → List ℕ
label_word (powers rs) = joined (text ",") (map decimal rs)
label_word unique = text "one"
label_word several = text "some"

unfoldable pub density : FileFigures → List ℕ
density a = decimal a.degree ++ (text "/" ++ decimal a.denominator)

unfoldable pub result_line : ℕ → Result (Rated FileFigures) → List ℕ
result_line box (refused n) = line (decimal box ∷ text "refused" ∷ decimal n ∷ [])
result_line box (answered a) =
    line (decimal box ∷ text "ok" ∷ density a.figures ∷ label_word a.figures.label ∷ [])

unfoldable pub poly_line : Result (Rated FileFigures) → List ℕ
poly_line (refused n) = []
poly_line (answered a) = line (text "poly" ∷ map decimal a.polynomial)

unfoldable pub report : ℕ → Result (Rated FileFigures) → List ℕ
report box r = header ++ (result_line box r ++ poly_line r)

-- the program lends itself 4,097 answer bytes and 8,192 work bytes
unfoldable pub printed : List ℕ → List ℕ
printed file = report (box_of file) (rate_file file 4097 8192)

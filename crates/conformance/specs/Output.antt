-- What is written of the examples and of a comparison, and the first difference of all.
use Rattle.std.specs.Prelude.{ℕ, ◌+◌, min, List, [], ◌∷◌, ◌++◌, Some, None, codes, decimal, Option}
use Rattle.std.specs.Option.{option_or}
use Rattle.input.specs.Counting.{most_counted}
use Rattle.input.specs.Hex.{pairs_of}
use Rattle.conformance.specs.Comparing.{agreeing, first_difference}
use Rattle.conformance.specs.Differences.{from_equal}
use Rattle.conformance.specs.declared.case.Case.{Case}
use Rattle.conformance.specs.declared.comparison.Comparison.{Comparison}
use Rattle.conformance.specs.declared.difference.Difference.{Difference}
use Rattle.conformance.specs.declared.difference.Difference.TheVariants.{Form, TextRead, BytesWritten, BytesRead, TextWritten}

-- a difference in words
abbrev pub difference_text : Difference → List ℕ
difference_text Form = codes "it is not a mark, a text and pairs of hexadecimal digits"
difference_text TextRead = codes "the text is read otherwise"
difference_text BytesWritten = codes "other bytes are written"
difference_text BytesRead = codes "the bytes are read otherwise"
difference_text TextWritten = codes "another text is written"

-- the line behind those that agree, if there is one that differs, and how it does
abbrev pub first_text : ℕ → Option Difference → List ℕ
first_text count None = codes ""
first_text count (Some difference) =
    codes "\nline " ++ (decimal (min (count + 1) most_counted) ++ (codes " differs: " ++ difference_text difference))

-- how many lines agree, and the first that differs
abbrev pub lines_text : ℕ → Option Difference → List ℕ
lines_text count first = (decimal count ++ codes " encodings agreed") ++ first_text count first

-- a comparison
abbrev pub comparison_text : Comparison → List ℕ
comparison_text comparison = lines_text comparison.agreed comparison.first

-- an example: a text, and the encoding that it is said to have
pub record Example : Type 0 where
  pub text : List ℕ
  pub encoding : List ℕ

-- a case of the code, as an example
abbrev pub example_of : Case → Example
example_of case = record { text = case.text.now; encoding = case.encoding.now }

-- X.690's example of an object identifier
abbrev pub standards : Example
standards = record { text = codes "2.100.3"; encoding = 0x06 ∷ (0x03 ∷ (0x81 ∷ (0x34 ∷ (0x03 ∷ [])))) }

-- the same rule for an arc that newer editions use
abbrev pub newer : Example
newer = record { text = codes "2.999.3"; encoding = 0x06 ∷ (0x03 ∷ (0x88 ∷ (0x37 ∷ (0x03 ∷ [])))) }

-- how we differ from an example
abbrev pub from_example : Example → Option Difference
from_example example = from_equal example.text example.encoding

-- whether it agrees
abbrev pub verdict_text : Option Difference → List ℕ
verdict_text None = codes "agreed"
verdict_text (Some difference) = difference_text difference

-- an example, and what came of it
abbrev pub example_line : Example → List ℕ
example_line example =
    example.text ++ (codes " is " ++ (pairs_of (codes " ") example.encoding ++ (codes ": " ++ (verdict_text (from_example example) ++ codes "\n"))))

-- the first difference from the examples and the lines, if there is one
abbrev pub first_of_all : List (List ℕ) → Option Difference
first_of_all lines = option_or (option_or (from_example standards) (from_example newer)) (first_difference lines)

-- all that is written: the examples, and what came of the lines
abbrev pub output_of : List (List ℕ) → List ℕ
output_of lines =
    (example_line standards ++ example_line newer) ++ (lines_text (min (agreeing lines) most_counted) (first_difference lines) ++ codes "\n")

-- What stands before the contents: the tag and the length (X.690, 8.1), and whether the contents are there.
use Rattle.std.specs.Prelude.{ℕ, ◌+◌, Bool, cond, ◌&&◌, List, length, take, drop, Some, None, Option, ◌==◌, nat_le, slice_index}
use Rattle.oid.specs.Refusals.{fault_at}
use Rattle.oid.specs.declared.refusal.Fault.{Fault}
use Rattle.oid.specs.declared.refusal.Refusal.TheVariants.{Header}

-- the tag of an object identifier
abbrev pub tag : ℕ
tag = 0x06

-- how many bytes of contents there are at most, so that one byte tells their length
abbrev pub most_contents : ℕ
most_contents = 0x7F

-- how many bytes stand before the contents
abbrev pub header_length : ℕ
header_length = 2

-- the length that is told; a byte that is absent counts as 0, which no tag and no length is
abbrev pub length_in : List ℕ → ℕ
length_in bytes = slice_index bytes 1

-- how many bytes an encoding with that length takes
abbrev pub taken_in : List ℕ → ℕ
taken_in bytes = header_length + length_in bytes

abbrev pub contents_in : List ℕ → List ℕ
contents_in bytes = take (length_in bytes) (drop header_length bytes)

-- the length is from 1 to 7F, and so many bytes follow
abbrev pub length_holds : List ℕ → Bool
length_holds bytes = nat_le 1 (length_in bytes) && (nat_le (length_in bytes) most_contents && nat_le (taken_in bytes) (length bytes))

-- 6. Is the first byte the tag, and is the second the length of contents that follow? A no is told at 0 if the first
-- byte is absent or another, else at 1.
unfoldable pub bad_header : List ℕ → Option Fault
bad_header bytes =
    cond (slice_index bytes 0 == tag) (cond (length_holds bytes) None (Some (fault_at Header 1))) (Some (fault_at Header 0))

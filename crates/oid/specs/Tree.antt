-- The tree of identifiers, on lists of arcs: which lists are identifiers, and how two of them are related.
use Rattle.std.specs.Prelude.{ℕ, ◌-◌, Bool, true, false, cond, ◌&&◌, ◌||◌, List, [], ◌∷◌, ◌++◌, length, take, Some, None, Option, ◌==◌, nat_le, nat_lt, slice_index}
use Rattle.std.specs.List.{list_all}
use Rattle.oid.specs.Arcs.{is_arc}

-- how many arcs an identifier has at least, and at most
abbrev pub fewest_arcs : ℕ
fewest_arcs = 2

abbrev pub most_arcs : ℕ
most_arcs = 16

-- the roots of the tree are 0, 1 and 2, and under 0 and 1 no second arc is larger than 39
abbrev pub last_root : ℕ
last_root = 2

abbrev pub last_second : ℕ
last_second = 39

-- every number of the list is an arc
unfoldable pub all_arcs : List ℕ → Bool
all_arcs numbers = list_all is_arc numbers

-- the first arc is 0, 1 or 2, and under 0 and 1 the second is at most 39
abbrev pub starts_well : ℕ → ℕ → Bool
starts_well first second = first == last_root || (nat_lt first last_root && nat_le second last_second)

-- the list is an identifier: 2 to 16 arcs that start well
unfoldable pub is_identifier : List ℕ → Bool
is_identifier arcs =
    nat_le fewest_arcs (length arcs) && (nat_le (length arcs) most_arcs && (starts_well (slice_index arcs 0) (slice_index arcs 1) && all_arcs arcs))

-- the list as an identifier; none where it is not one
abbrev pub identified : List ℕ → Option (List ℕ)
identified arcs = cond (is_identifier arcs) (Some arcs) None

-- the list without its last arc; an identifier of two arcs has no parent
abbrev pub parent_of : List ℕ → Option (List ℕ)
parent_of arcs = cond (nat_lt fewest_arcs (length arcs)) (Some (take (length arcs - 1) arcs)) None

-- the list with one arc more; none past the most arcs, and none for a number that is no arc
abbrev pub child_of : List ℕ → ℕ → Option (List ℕ)
child_of arcs arc = cond (nat_lt (length arcs) most_arcs && is_arc arc) (Some (arcs ++ arc ∷ [])) None

-- the numbers of `front` are the first numbers of the list
unfoldable pub begins_with : List ℕ → List ℕ → Bool
begins_with list [] = true
begins_with [] (y ∷ front) = false
begins_with (x ∷ list) (y ∷ front) = x == y && begins_with list front

-- P is at or below Q when Q's arcs are the first arcs of P
abbrev pub at_or_below : List ℕ → List ℕ → Bool
at_or_below p q = begins_with p q

-- and below Q when it is longer, too
abbrev pub below : List ℕ → List ℕ → Bool
below p q = at_or_below p q && nat_lt (length q) (length p)

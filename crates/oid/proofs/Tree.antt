-- Laws of the tree's rule and of fronts, on lists of arcs.
use Rattle.std.proofs.Common.{◌≡◌, ℕ, ◌≤◌, Bool, true, false, cond, ◌&&◌, eqb, leb, List, [], ◌∷◌, ◌++◌, length, get_or, take, drop, Some, None, Decides, refl, arith}
use Rattle.std.proofs.lemmas.List.{length-take-le, get_or-take}
use Rattle.std.proofs.lemmas.Bool.{both_ways, and_parts, and_from, eqb-true, eq-eqb, leb-true, le-leb}
use Rattle.std.proofs.lemmas.Bool.Decides.{same_from_decides}
use Rattle.oid.specs.Arcs.{arc_limit, is_arc}
use Rattle.oid.specs.Tree.{fewest_arcs, most_arcs, all_arcs, starts_well, is_identifier, identified, begins_with}

and_true : (v : Bool) → (v && true) ≡ v
and_true true = refl
and_true false = refl

-- what the rule says of a list, part by part
pub record Keeps (arcs : List ℕ) : Type 0 where
  pub long : fewest_arcs ≤ length arcs
  pub short : length arcs ≤ most_arcs
  pub each : all_arcs arcs ≡ true
  pub start : starts_well (get_or arcs 0 0) (get_or arcs 1 0) ≡ true

pub keeps : (arcs : List ℕ) → is_identifier arcs ≡ true → Keeps arcs
unfolding is_identifier
keeps arcs h =
    let p = and_parts (leb fewest_arcs (length arcs)) _ h in
    let q = and_parts (leb (length arcs) most_arcs) _ p.1 in
    let s = and_parts (starts_well (get_or arcs 0 0) (get_or arcs 1 0)) _ q.1 in
    record {
      long = leb-true _ _ p.0;
      short = leb-true _ _ q.0;
      each = s.1;
      start = s.0;
    }

-- there are two arcs at least
pub some_arcs : (arcs : List ℕ) → is_identifier arcs ≡ true → 2 ≤ length arcs
some_arcs arcs h = (keeps arcs h).long

pub kept : (arcs : List ℕ) → Keeps arcs → is_identifier arcs ≡ true
unfolding is_identifier
kept arcs k =
    and_from (leb fewest_arcs (length arcs)) _ (le-leb _ _ k.long)
    (and_from (leb (length arcs) most_arcs) _ (le-leb _ _ k.short) (and_from (starts_well (get_or arcs 0 0) (get_or arcs 1 0)) _ k.start k.each))

-- one number more is an arc or not
pub all_arcs_push : (arcs : List ℕ) (arc : ℕ) → all_arcs arcs ≡ true → all_arcs (arcs ++ arc ∷ []) ≡ is_arc arc
unfolding all_arcs
all_arcs_push [] arc h = and_true (is_arc arc)
all_arcs_push (n ∷ ns) arc h =
    let p = and_parts (is_arc n) (all_arcs ns) h in
    rw (p.0) (all_arcs_push ns arc p.1)

pub all_arcs_take : (n : ℕ) (arcs : List ℕ) → all_arcs arcs ≡ true → all_arcs (take n arcs) ≡ true
unfolding all_arcs
all_arcs_take Prim.Native.Nat.zero arcs h = refl
all_arcs_take (Prim.Native.Nat.suc n) [] h = refl
all_arcs_take (Prim.Native.Nat.suc n) (arc ∷ arcs) h =
    let p = and_parts (is_arc arc) (all_arcs arcs) h in
    and_from (is_arc arc) _ p.0 (all_arcs_take n arcs p.1)

-- the first arcs, two or more of them
pub keeps_take : (n : ℕ) (arcs : List ℕ) → Keeps arcs → 2 ≤ n → n ≤ length arcs → Keeps (take n arcs)
keeps_take n arcs k two within =
    let len = length-take-le n arcs within in
    let first = get_or-take n arcs 0 0 (omega arith) in
    let second = get_or-take n arcs 1 0 (omega arith) in
    record {
      long = omega (arith, len);
      short = omega (arith, len, k.short);
      each = all_arcs_take n arcs k.each;
      start = rw (first, second) k.start;
    }

-- `begins_with` decides whether a list is its front and a rest
pub begins_front : (list front : List ℕ) → begins_with list front ≡ true → list ≡ front ++ drop (length front) list
unfolding begins_with
begins_front list [] h = refl
begins_front [] (y ∷ front) h = absurd (both_ways false refl h)
begins_front (x ∷ list) (y ∷ front) h =
    let p = and_parts (eqb x y) (begins_with list front) h in
    let e = eqb-true x y p.0 in
    let f = begins_front list front p.1 in
    cc

pub front_begins : (front rest : List ℕ) → begins_with (front ++ rest) front ≡ true
unfolding begins_with
front_begins [] rest = refl
front_begins (y ∷ front) rest = and_from (eqb y y) _ (eq-eqb y y refl) (front_begins front rest)

pub begins_decides : (list front : List ℕ) → Decides (begins_with list front) (list ≡ front ++ drop (length front) list)
begins_decides list front = (begins_front list front, λ e. rw e (front_begins front (drop (length front) list)))

-- what a comparison of slices answers is `begins_with`
pub begins_is : (list front : List ℕ) (r : Bool)
    → (r ≡ true → list ≡ front ++ drop (length front) list) × ((rest : List ℕ) → list ≡ front ++ rest → r ≡ true)
    → r ≡ begins_with list front
begins_is list front r h =
    same_from_decides r (begins_with list front) (h.0, λ e. h.1 (drop (length front) list) e) (begins_decides list front)

-- what `identified` answers
pub identified_some : (list arcs : List ℕ) → Some arcs ≡ identified list → (is_identifier list ≡ true) × (arcs ≡ list)
identified_some list arcs e = go (is_identifier list) e
  where
    go : (v : Bool) → Some arcs ≡ cond v (Some list) None → (v ≡ true) × (arcs ≡ list)
    go true h = (refl, cc)
    go false h = let z : ◌≡◌ {A = ℕ} 0 1 = cc in absurd (omega arith)

pub identified_none : (list : List ℕ) → None ≡ identified list → is_identifier list ≡ false
identified_none list e = go (is_identifier list) e
  where
    go : (v : Bool) → None ≡ cond v (Some list) None → v ≡ false
    go true h = let z : ◌≡◌ {A = ℕ} 0 1 = cc in absurd (omega arith)
    go false h = refl

-- a list of arcs of the right length is an identifier where it starts well
pub identifier_starts : (arcs : List ℕ) → fewest_arcs ≤ length arcs → length arcs ≤ most_arcs
    → all_arcs arcs ≡ true → is_identifier arcs ≡ starts_well (get_or arcs 0 0) (get_or arcs 1 0)
unfolding is_identifier
identifier_starts arcs low high each =
    rw (le-leb fewest_arcs (length arcs) low, le-leb (length arcs) most_arcs high, each) (and_true (starts_well (get_or arcs 0 0) (get_or arcs 1 0)))

-- 0.0 is an identifier
pub keeps_smallest : Keeps (0 ∷ 0 ∷ [])
unfolding all_arcs
keeps_smallest =
    let zero = le-leb 0 arc_limit (omega arith) in
    record { long = omega arith; short = omega arith; each = and_from (is_arc 0) _ zero (and_from (is_arc 0) _ zero refl); start = refl }

-- The numbers that are holders, and those that are quotas.
use Rattle.std.specs.Prelude.{ℕ, Bool, ◌&&◌, nat_le}

-- the largest quota, one less than the most entries: the root has an entry too
abbrev pub most_quota : ℕ
most_quota = 511

-- the first and the last number of a holder
abbrev pub first_holder : ℕ
first_holder = 1

abbrev pub last_holder : ℕ
last_holder = 65535

abbrev pub is_quota : ℕ → Bool
is_quota number = nat_le number most_quota

abbrev pub is_holder : ℕ → Bool
is_holder number = nat_le first_holder number && nat_le number last_holder

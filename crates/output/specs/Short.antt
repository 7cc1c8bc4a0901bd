-- Runs of bytes: the first of an array's bytes, as many as the run has. A short run, which has room for eight, is how the code hands on
-- every packet but those of held motion; the queue is a run with room for more.
use Rattle.std.specs.Prelude.{ℕ, ◌+◌, ◌-◌, ◌≤◌, ◌≡◌, List, ◌++◌, length, take, set, replicate}
use Rattle.output.specs.declared.Run.{Run}

-- these bytes as a run with room for n; the bytes past them are 0
abbrev pub run_of : (n : ℕ) → List ℕ → Run n
run_of n bs = record { bytes = bs ++ replicate (n - length bs) 0; len = length bs }

-- the bytes of a run
abbrev pub run_bytes : {n : ℕ} → Run n → List ℕ
run_bytes r = take r.len r.bytes

-- one byte more
abbrev pub added : {n : ℕ} → ℕ → Run n → Run n
added b r = record { bytes = set r.bytes r.len b; len = r.len + 1 }

-- the most bytes of a short run: a status reply
abbrev pub short_room : ℕ
short_room = 8

-- these bytes as a short run
abbrev pub short_of : List ℕ → Run short_room
short_of bs = run_of short_room bs

-- the bytes of a short run
abbrev pub short_bytes : Run short_room → List ℕ
short_bytes r = run_bytes r

-- what makes a value a short run
pub record IsShort (r : Run short_room) : Type 0 where
  pub len : r.len ≤ short_room
  pub room : length r.bytes ≡ short_room

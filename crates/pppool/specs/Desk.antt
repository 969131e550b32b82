-- The claim protocol of a desk: how its atomic word, the number of the next block, relates to the states of its seats.
use Rattle.std.specs.Prelude.{◌≡◌, ℕ, ◌+◌, ◌<◌, ◌≤◌, min, Bool, List, [], ◌∷◌, ◌++◌, length, All}
use Rattle.std.specs.Prelude.{MatchBool, false, ◌||◌, nat_lt, slice_index, if◌then◌else◌}
use mathlib.Core.Option.{some}
use lib.ListN.{get_elem?}
use Rattle.atomic_table.specs.Table.{State, Me, Step}
use Rattle.atomic_table.specs.Seated.{TableId}
use Rattle.ppshelf.specs.Events.{times}
use Rattle.ppshelf.specs.Files.{max_rows}
use Rattle.pppool.specs.declared.seat_state.SeatState.{SeatState}
use Rattle.pppool.specs.declared.seat_state.Plan.{Plan}

-- the largest number of blocks of a desk: one for each unit of the longest list
abbrev pub max_blocks : ℕ
max_blocks = max_rows

-- the state of a seat
abbrev pub seat_state : List ℕ → ℕ → ℕ → Plan → SeatState
seat_state claims empty_claims seats plan = record { claims = claims; empty_claims = empty_claims; seats = seats; plan = plan }

-- the sum of f over seats
abbrev pub total : (SeatState → ℕ) → List SeatState → ℕ
total f [] = 0
total f (v ∷ vs) = f v + total f vs

-- 1 for the numbers below n, otherwise 0
abbrev pub once_below : ℕ → ℕ → ℕ
once_below x n = if nat_lt x n then 1 else 0

-- What holds of each seat's state, at the plan of its desk and the word n: it has found no block left at most once for
-- each seat that is joined in it, and only if the word has passed the last block; a state without seats has no claims,
-- and any other has the desk's plan.
pub record FitsSeat (p : Plan) (n : ℕ) (v : SeatState) : Type 0 where
  pub empty_claims : v.empty_claims ≤ v.seats
  pub idle : v.seats ≡ 0 → v.claims ≡ []
  pub plan : 0 < v.seats → v.plan ≡ p
  pub passed_last : 0 < v.empty_claims → p.blocks < n

-- The claims of all seats together are the blocks below the word, each once. The word has passed the last block once
-- for each time that a seat found none left.
pub record ClaimInvariant (p : Plan) (s : State ℕ SeatState) : Type 0 where
  pub few_blocks : p.blocks ≤ max_blocks
  pub few_seats : p.seats ≤ 64
  pub word : length s.words ≡ 1
  pub claims : (x : ℕ) → total (λ v. times x v.claims) s.views ≡ once_below x (min (slice_index s.words 0) p.blocks)
  pub seats : total (λ v. v.seats) s.views ≡ p.seats
  pub each : (id : ℕ) (v : SeatState) → get_elem? s.views id ≡ some v → FitsSeat p (slice_index s.words 0) v
  pub bound : slice_index s.words 0 ≤ p.blocks + total (λ v. v.empty_claims) s.views

-- in a step of the table, the state of the seat that takes it
abbrev pub state_of : Me ℕ SeatState → SeatState
state_of me = me.0

-- in a step of the table, the words that the seat carries, each with its slot; a desk's steps leave none
abbrev pub carried_by : Me ℕ SeatState → List (ℕ × ℕ)
carried_by me = me.1

-- a seat takes a block, which is above all that it has
pub record TakesBlock (old : SeatState) (block : ℕ) (new : SeatState) : Type 0 where
  pub taken : new ≡ seat_state (old.claims ++ block ∷ []) old.empty_claims old.seats old.plan
  pub above : All (λ c. c < block) old.claims

-- a seat finds no block left, and counts that
abbrev pub FindsNone : SeatState → SeatState → Type 0
FindsNone old new = new ≡ seat_state old.claims (old.empty_claims + 1) old.seats old.plan

-- What one claim does: the seat takes the block that the word names, or finds none left.
pub record IsClaim (me : Me ℕ SeatState) (found : ℕ) (after : Me ℕ SeatState) : Type 0 where
  pub carried : carried_by after ≡ []
  pub outcome : MatchBool (nat_lt found (state_of me).plan.blocks) (TakesBlock (state_of me) found (state_of after)) (FindsNone (state_of me) (state_of after))

abbrev pub Claims : Step ℕ → Me ℕ SeatState → ℕ → Me ℕ SeatState → Type 0
Claims s me found after = IsClaim me found after

-- The identity of a desk: the table that has its word, and its plan
pub record DeskId : Type 0 where
  pub table : TableId
  pub plan : Plan

-- A seat: its desk, the blocks that it claimed, in order, and whether it found no block left
pub record SeatView : Type 0 where
  pub desk : DeskId
  pub claims : List ℕ
  pub found_empty : Bool

-- the claims of the seats, concatenated
abbrev pub claims_of : List SeatView → List ℕ
claims_of [] = []
claims_of (s ∷ rest) = s.claims ++ claims_of rest

-- a seat found no block left
abbrev pub any_empty : List SeatView → Bool
any_empty [] = false
any_empty (s ∷ rest) = s.found_empty || any_empty rest

-- a desk's plan
abbrev pub plan_of : ℕ → ℕ → Plan
plan_of blocks seats = record { blocks = blocks; seats = seats }

-- a seat that has claimed nothing
abbrev pub new_seat : DeskId → SeatView
new_seat desk = record { desk = desk; claims = []; found_empty = false }

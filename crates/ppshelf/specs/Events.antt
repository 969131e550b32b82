-- What happens to a shelf and a block counter that several callers use: their shared state, and the three events that
-- change it. No contract of `look` or of a claim cites these events: that each is one of them is said in prose alone, and
-- the theorems over them stand for themselves.
use Rattle.std.specs.Prelude.{◌≡◌, ℕ, suc, ◌+◌, ◌<◌, ◌≤◌, ◌==◌, nat_lt, min, if◌then◌else◌, Bool, true, false, List, [], ◌∷◌, ◌++◌, length, replicate, Some, None, slice_index_or, slice_set}
use Rattle.ppshelf.specs.Content.{Content}
use Rattle.ppshelf.specs.Files.{Files, file_at, Extends, Agree}

-- A caller: what it has observed of the shelf, the blocks that it claimed, in order, and whether it found no block left
pub record Caller : Type 0 where
  pub observed : Files
  pub claims : List ℕ
  pub found_empty : Bool

-- the caller with an index past the last
abbrev pub no_caller : Caller
no_caller = record { observed = []; claims = []; found_empty = false }

-- What the rows cache, the number of the next block, and the callers
pub record Shared : Type 0 where
  pub cached : Files
  pub block : ℕ
  pub callers : List Caller

abbrev pub caller_at : Shared → ℕ → Caller
caller_at shared caller = slice_index_or shared.callers caller no_caller

abbrev pub observed_by : Shared → ℕ → Files
observed_by shared caller = (caller_at shared caller).observed

-- the state after a change of one caller
abbrev pub with_changed_caller : Shared → ℕ → (Caller → Caller) → Shared
with_changed_caller shared caller change = record shared { callers = slice_set shared.callers caller (change (caller_at shared caller)) }

-- a caller observes the content of a row
abbrev pub observing : Shared → ℕ → ℕ → Content → Shared
observing shared caller row c = with_changed_caller shared caller (λ (k : Caller). record k { observed = slice_set k.observed row (Some c) })

-- a row caches a content
abbrev pub caching : Shared → ℕ → Content → Shared
caching shared row c = record shared { cached = slice_set shared.cached row (Some c) }

-- a caller gets the next block
abbrev pub with_block : ℕ → Caller → Caller
with_block block k = record k { claims = k.claims ++ block ∷ [] }

-- a caller finds that none is left
abbrev pub with_no_block_left : Caller → Caller
with_no_block_left k = record k { found_empty = true }

-- the number of the next block rises by one
abbrev pub with_next_block : Shared → Shared
with_next_block shared = record shared { block = suc shared.block }

-- A caller's look caches the first content of a row; a later look reads what is cached; a caller claims a block
pub data Event : Type 0 where
  Cache : ℕ → ℕ → Content → Event
  Read : ℕ → ℕ → Event
  Claim : ℕ → Event

-- An event of an existing caller, over a block counter with `blocks` blocks. Cache: a row that caches nothing gets a
-- content, and the caller observes it. Read: the caller observes what the row caches. Claim: the caller gets the next
-- block if there is one, and otherwise finds that none is left. The number of the next block rises by one.
pub data Happens (blocks : ℕ) : Shared → Event → Shared → Type 0 where
  caches : {shared : Shared} {caller row : ℕ} {c : Content}
      → caller < length shared.callers
      → row < length shared.cached
      → file_at shared.cached row ≡ None
      → Happens blocks shared (Cache caller row c) (observing (caching shared row c) caller row c)
  reads : {shared : Shared} {caller row : ℕ} {c : Content}
      → caller < length shared.callers
      → file_at shared.cached row ≡ Some c
      → Happens blocks shared (Read caller row) (observing shared caller row c)
  claims : {shared : Shared} {caller : ℕ}
      → caller < length shared.callers
      → shared.block < blocks
      → Happens blocks shared (Claim caller) (with_next_block (with_changed_caller shared caller (with_block shared.block)))
  finds_none : {shared : Shared} {caller : ℕ}
      → caller < length shared.callers
      → blocks ≤ shared.block
      → Happens blocks shared (Claim caller) (with_next_block (with_changed_caller shared caller with_no_block_left))

-- one event after another
pub data Happen (blocks : ℕ) : Shared → List Event → Shared → Type 0 where
  none : {shared : Shared} → Happen blocks shared [] shared
  next : {shared between after : Shared} {event : Event} {events : List Event}
      → Happens blocks shared event between
      → Happen blocks between events after
      → Happen blocks shared (event ∷ events) after

-- the first state: no row caches anything, the next block is the first, and no caller has observed or claimed anything
abbrev pub initial_state : ℕ → ℕ → Shared
initial_state rows callers = record { cached = replicate rows None; block = 0; callers = replicate callers (record no_caller { observed = replicate rows None }) }

-- What a caller has observed stays, whatever happens.
abbrev pub ObservedStays : Type 0
ObservedStays =
    (blocks rows callers : ℕ) (events more : List Event) (shared after : Shared)
    → Happen blocks (initial_state rows callers) events shared → Happen blocks shared more after
    → (caller : ℕ) → Extends (observed_by after caller) (observed_by shared caller)

-- Callers agree on every row that both have observed.
abbrev pub CallersAgree : Type 0
CallersAgree =
    (blocks rows callers : ℕ) (events : List Event) (shared : Shared) → Happen blocks (initial_state rows callers) events shared
    → (one two : ℕ) → Agree (observed_by shared one) (observed_by shared two)

-- ---- claims

-- how often a number occurs in the list
abbrev pub times : ℕ → List ℕ → ℕ
times x [] = 0
times x (y ∷ ys) = (if y == x then 1 else 0) + times x ys

-- the blocks that callers claimed, one caller after another
abbrev pub claims_of : List Caller → List ℕ
claims_of [] = []
claims_of (k ∷ ks) = k.claims ++ claims_of ks

-- The blocks that callers claimed are all blocks before the next one, each claimed once. If a caller found that none is left, they
-- are all blocks.
abbrev pub EachBlockOnce : Type 0
EachBlockOnce =
    (blocks rows callers : ℕ) (events : List Event) (shared : Shared) → Happen blocks (initial_state rows callers) events shared
    → ((x : ℕ) → times x (claims_of shared.callers) ≡ (if nat_lt x (min shared.block blocks) then 1 else 0))
    × ((caller : ℕ) → (caller_at shared caller).found_empty ≡ true → blocks ≤ shared.block)

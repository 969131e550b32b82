-- The pages that workers fill in a round.
use Rattle.std.specs.Prelude.{◌≡◌, ℕ, false, List, [], flat_map, take}
use Rattle.ppserve.specs.declared.line_cursor.LineCursor.{LineCursor}
use Rattle.ppserve.specs.declared.rounds.Page.{Page}
use Rattle.ppserve.specs.code.Records.{Record, Alike, record_lines, remaining_records}

-- the records that are assigned to a page
abbrev pub page_records : Page → List Record
page_records p = take p.count (remaining_records p.start)

pub record IsEmpty (p : Page) : Type 0 where
  pub buf : p.buf ≡ []
  pub unfailed : p.sink.failed ≡ false
  pub alike : Alike p.cursor p.start

-- if its sink has not failed, a page has all lines of its records
pub record IsFilled (names : List (List ℕ)) (p : Page) : Type 0 where
  pub lines : p.sink.failed ≡ false → p.buf ≡ flat_map (record_lines names) (page_records p)
  pub alike : Alike p.cursor p.start

-- a page is over the same output as a position
abbrev pub IsAlike : LineCursor → Page → Type 0
IsAlike c p = Alike p.start c

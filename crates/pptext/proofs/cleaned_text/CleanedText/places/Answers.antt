use Rattle.std.proofs.Common.{◌≡◌, ℕ, List, [], Option, None, Some, MatchOption, length, get_or}
use Rattle.pptext.specs.declared.sources.Profile.{Profile}
use Rattle.pptext.specs.declared.cleaned_text.ChangedText.{ChangedText}
use Rattle.pptext.specs.code.LineNotes.{IsTable}
use Rattle.pptext.specs.code.Steps.{lacks_newline}
use Rattle.pptext.specs.code.CleanedText.{IsChangedText, end_from}
use Rattle.pptext.proofs.Cursors.{stands_first}
use Rattle.pptext.proofs.cleaned_text.CleanedText.places.Goals as goal

-- The file does not end in a splice, and `line_notes` is its table.
made_table : (profile : Profile) (file : ℕ) (raw line_notes : List ℕ) (cleaned : Option ChangedText)
    → MatchOption cleaned (IsChangedText profile raw raw []) (λ c. IsChangedText profile raw c.codes.items c.line_notes.items)
    → MatchOption cleaned (line_notes ≡ []) (λ c. line_notes ≡ c.line_notes.items)
    → (end_from profile file raw 0 ≡ None) × IsTable profile (lacks_newline raw) raw line_notes
made_table profile file raw line_notes None whole same = (whole.ends file, rw same whole.table)
made_table profile file raw line_notes (Some c) whole same = (whole.ends file, rw same whole.table)

pub invariant_of-result : goal.invariant_of-result
invariant_of-result c =
    let t = c.self.inside in
    let raw = t.raw.now in
    let line_notes = c.notes_of-line_notes.result.now in
    let made = made_table t.profile t.file raw line_notes t.cleaned c.self.invariant.1 c.notes_of-line_notes.ensures in
    let first : c.plain_run_at.result ≡ get_or line_notes 0 (length raw) = c.plain_run_at.ensures in
    (c.self.invariant.0, rw first (stands_first t.profile t.file raw line_notes made.0 made.1))

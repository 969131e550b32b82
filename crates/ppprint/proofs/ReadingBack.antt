-- The text of items, read by its lines, has their tokens and pragmas at their locations.
use Rattle.std.proofs.Common.{◌≡◌, ℕ, Bool, true, false, List, [], ◌∷◌, ◌++◌, codes, refl, sym, subst}
use Rattle.std.specs.Prelude.{None}
use Rattle.std.specs.List.{AllByRecursion}
use Rattle.pptext.specs.declared.sources.Profile.{Profile}
use Rattle.ppprint.specs.Laws.{IsPrintable, AreWellSpelled, AreNamed, turn_reading, readings_of}
use Rattle.ppprint.specs.Reads.{ReadsPragma, HasTokens, has_flag, marked, turns, ReadsLine, Reads, nowhere}
use Rattle.ppprint.specs.Shown.{Location, PragmaToken, Turn, Enters, Leaves, Renumbers, Shown, ShowsToken, ShowsPragma, ShowsMark}
use Rattle.ppprint.specs.Text.{text_of}
use Rattle.ppprint.proofs.ItemLines.{IsLine, tokens_at, IsReader, ItemHas, NamedBy, text_reads}
use Rattle.ppprint.proofs.MarkedLines.{flag_puts, marker_puts, pragma_puts, tokens_written}
use Rattle.ppprint.proofs.NewLineFreeLines.{no_new_line}
use Rattle.ppprint.proofs.SpacedLines.{Put, puts_text, puts_tokens, line_has_tokens}

-- any text
abbrev pub Any : List ℕ → Type 0
Any s = Unit {0}

pub any_texts : (items : List Shown) → AllByRecursion (ItemHas Any) items
any_texts [] = tt
any_texts (ShowsToken at t ∷ items) = ((tt, tt), any_texts items)
any_texts (ShowsPragma at ts ∷ items) = ((tt, all ts), any_texts items)
  where
    all : (us : List PragmaToken) → AllByRecursion (λ (t : PragmaToken). Any t.text) us
    all [] = tt
    all (u ∷ us) = (tt, all us)
any_texts (ShowsMark at turn ∷ items) = (tt, any_texts items)

abbrev Same : List ℕ → List ℕ → Type 0
Same a b = a ≡ b

named_same : (name : List ℕ) (items : List Shown) → AreNamed name items → NamedBy Same name items
named_same name [] h = tt
named_same name (ShowsToken at t ∷ items) h = (h.0, named_same name items h.1)
named_same name (ShowsPragma at ts ∷ items) h = (h.0, named_same name items h.1)
named_same name (ShowsMark at turn ∷ items) h = named_same at.name items h

has_tokens : (profile : Profile) (ps : List Put) → IsLine Any ps → HasTokens profile (puts_text ps) (puts_tokens ps)
has_tokens profile ps line = line_has_tokens profile ps line.spaced (line.free profile)

-- ---- markers

flag_3 : (turn : Turn) (system : Bool) → has_flag (codes "3") (puts_tokens (flag_puts turn system)) ≡ system
flag_3 Enters true = refl
flag_3 Enters false = refl
flag_3 Leaves true = refl
flag_3 Leaves false = refl
flag_3 Renumbers true = refl
flag_3 Renumbers false = refl

marked_there : (turn : Turn) (at : Location) → marked at.line at.name (puts_tokens (flag_puts turn at.system)) ≡ at
marked_there turn at = λ i. record { name = at.name; line = at.line; system = flag_3 turn at.system i }

turns_there : (turn : Turn) (system : Bool) (at : Location) → turns (puts_tokens (flag_puts turn system)) at ≡ turn_reading at turn
turns_there Enters true at = refl
turns_there Enters false at = refl
turns_there Leaves true at = refl
turns_there Leaves false at = refl
turns_there Renumbers true at = refl
turns_there Renumbers false at = refl

marker_reads : (profile : Profile) (any at : Location) (turn : Turn) → IsPrintable at → IsLine Any (marker_puts turn at) → ReadsLine profile any (puts_text (marker_puts turn at)) (turn_reading at turn) at
marker_reads profile any at turn h line =
    let flags = puts_tokens (flag_puts turn at.system) in
    let text = puts_text (marker_puts turn at) in
    let read : ReadsLine profile any text (turns flags (marked at.line at.name flags)) (marked at.line at.name flags) =
    ReadsLine.marker {number = at.line} {name = at.name} {flags = flags} h.line refl (has_tokens profile (marker_puts turn at) line) in
    subst (λ z. ReadsLine profile any text z at) (turns_there turn at.system at) (subst (λ z. ReadsLine profile any text (turns flags z) z) (marked_there turn at) read)

-- ---- all lines

reads_lines : (profile : Profile) → IsReader Any Same (Reads profile)
reads_lines profile = record {
  plain = λ s e. tt;
  other_way = λ a b e. sym e;
  nothing = λ at. Reads.nothing;
  tokens = λ at ps rest r line none later. Reads.line (no_new_line ps line.spaced) (ReadsLine.tokens none (has_tokens profile ps line)) later;
  marker = λ any at turn rest r h line later. Reads.line (no_new_line (marker_puts turn at) line.spaced) (marker_reads profile any at turn h line) later;
  pragma = λ at ts rest r line later.
      subst (λ z. Reads profile at (puts_text (pragma_puts ts) ++ 10 ∷ rest) (ReadsPragma at z ∷ r)) (tokens_written None ts)
      (Reads.line (no_new_line (pragma_puts ts) line.spaced) (ReadsLine.pragma refl (has_tokens profile (pragma_puts ts) line)) later);
  moves = λ a b ps text r name line system later.
      let same : a ≡ b = λ i. record { name = name i; line = line i; system = system i } in
      subst (λ z. Reads profile z text (tokens_at z ps ++ r)) same later;
}

pub reads_back : (profile : Profile) (items : List Shown) → AreWellSpelled items → AreNamed [] items → Reads profile nowhere (text_of items) (readings_of items)
reads_back profile items spelled named = text_reads (reads_lines profile) items spelled (any_texts items) (named_same [] items named)

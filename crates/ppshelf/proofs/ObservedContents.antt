-- The contents that a pass has observed, by row.
use Rattle.std.proofs.Common.{Option, zero, suc, take, ◌-◌, ◌+◌, replicate, ◌≡◌, ℕ, ◌<◌, ◌≤◌, List, length, get_or, set}
use Rattle.std.proofs.Common.{Some, None, refl, sym, ◌∙◌, ap, arith, inl, inr, subst}
use Rattle.std.specs.Option.{option_map}
use Rattle.std.proofs.lemmas.Grind.{common_steps}
use Rattle.std.proofs.lemmas.List.{map-set, get_or_past, get_or_read, get_or-set_other, length-set}
use Rattle.std.proofs.Math.ListN.{get_or-map}
use Rattle.std.proofs.Math.Seq.{map-set_same}
use Rattle.std.proofs.lemmas.Bool.{cases_lt, cases_eq}
use Rattle.std.proofs.lemmas.Option.{none-some, same_Some}
use Rattle.ppshelf.specs.Content.{Content, IsPermitted}
use Rattle.ppshelf.specs.Names.{name_in}
use Rattle.ppshelf.specs.Files.{Files, ShelfView, file_at, AllPermitted, or_else, Agree, IsMerged, Extends}
use Rattle.ppshelf.specs.NamesView.{NamesView}
use Rattle.pptext.specs.declared.sources.Profile.{Profile}
use Rattle.ppshelf.specs.code.ShelfRows.{LoadedView, FileView, file_in, RowState, Observation, IsPlaced, FitsRow, Placed, IsShelf, IsPass}
use Rattle.ppshelf.specs.code.ShelfRows.{files_of, filled_of, cells_of, shelf_view, row_state_at, no_observation, no_row_state}

-- A map of only `None` has no content for any row.
pub none_known : (rows row : ℕ) → file_at (replicate rows None) row ≡ None
none_known zero row = refl
none_known (suc rows) zero = refl
none_known (suc rows) (suc row) = none_known rows row

abbrev pub content_of_sight : Observation → Option Content
content_of_sight s = option_map (λ (h : LoadedView). h.content) s.shown

pub files_of-at : (observations : List Observation) (row : ℕ) → file_at (files_of observations) row ≡ content_of_sight (get_or observations row no_observation)
files_of-at observations row = get_or-map content_of_sight observations row no_observation

some_of : (o : Option LoadedView) (c : Content) → option_map (λ (h : LoadedView). h.content) o ≡ Some c → (h : LoadedView) × (o ≡ Some h) × (h.content ≡ c)
some_of None c e = absurd (none-some c e)
some_of (Some h) c e = (h, refl, same_Some h.content c e)

-- A known content of a row is the one that the pass was given.
pub shown_of : (observations : List Observation) (row : ℕ) (c : Content) → file_at (files_of observations) row ≡ Some c → (h : LoadedView) × ((get_or observations row no_observation).shown ≡ Some h) × (h.content ≡ c)
shown_of observations row c e = some_of (get_or observations row no_observation).shown c (sym (files_of-at observations row) ∙ e)

-- A row with a known content is within the list of observations.
pub known_within : (observations : List Observation) (row : ℕ) (c : Content) → file_at (files_of observations) row ≡ Some c → row < length observations
known_within observations row c e =
    elim (cases_lt row (length observations)) [
      | inl h ↦ h
      | inr h ↦ absurd (none-some c (ap content_of_sight (sym (get_or_past observations row no_observation h)) ∙ (sym (files_of-at observations row) ∙ e)))
    ]

-- ---- a row as callers see it

abbrev held : FileView → Content → LoadedView
held file c = record { row = file.row; name = file.name; profile = file.profile; content = c }

held_is : (o : Option LoadedView) (file : FileView) → ((h : LoadedView) → o ≡ Some h → IsPlaced file h) → o ≡ option_map (held file) (option_map (λ (h : LoadedView). h.content) o)
held_is None file p = refl
held_is (Some h) file p =
    let e = p h refl in
    let one : Some h ≡ Some (record h { row = file.row }) = ap (λ (r : ℕ). Some (record h { row = r })) e.0 in
    let two : Some (record h { row = file.row }) ≡ Some (record h { row = file.row; name = file.name }) = ap (λ (n : List ℕ). Some (record h { row = file.row; name = n })) e.1 in
    one ∙ (two ∙ ap (λ (p : Profile). Some (held (record file { profile = p }) h.content)) e.2)

spot_by : (s : RowState) (file : FileView) (filled : Option Content) (cell : ℕ)
    → filled ≡ option_map (λ (h : LoadedView). h.content) s.filled
    → cell ≡ s.cell
    → ((h : LoadedView) → s.filled ≡ Some h → IsPlaced file h)
    → s ≡ record { filled = option_map (held file) filled; cell = cell }
spot_by s file filled cell based celled p =
    ap (λ (b : Option LoadedView). record s { filled = b }) (held_is s.filled file p)
    ∙ (ap (λ (b : Option Content). record s { filled = option_map (held file) b }) (sym based)
    ∙ ap (λ (k : ℕ). record { filled = option_map (held file) filled; cell = k }) (sym celled))

-- The state of a row is its state in the view of the shelf.
pub spot_is : (profile : Profile) (names : NamesView) (rows : List RowState) (row : ℕ) (state : RowState)
    → Placed profile names.names rows
    → row < length rows
    → state ≡ get_or rows row state
    → state ≡ row_state_at (shelf_view profile names rows) row
spot_is profile names rows row state placed within read =
    let filled : RowState → Option Content = λ s. option_map (λ (h : LoadedView). h.content) s.filled in
    let cell : RowState → ℕ = λ s. s.cell in
    get_or_read rows row state within read no_row_state
    ∙ spot_by (get_or rows row no_row_state) (file_in profile names.names row) (file_at (filled_of rows) row) (get_or (cells_of rows) row 0)
    (get_or-map filled rows row no_row_state) (get_or-map cell rows row no_row_state) (placed row)

-- ---- the contents that a pass has observed

pub lawful_files : (may : List ℕ → Content → Type 0) (stock : ShelfView) (observations : List Observation) → IsPass may stock observations → AllPermitted may stock.names (files_of observations)
lawful_files may stock observations is row c e =
    let s = shown_of observations row c e in
    let within : row < length stock.names = let k = known_within observations row c e in let l = is.len in omega arith in
    let f = (is.rows row within).fits s.0 s.1 in
    let P : Content → Type 0 = λ x. IsPermitted may (name_in stock.names row) x in
    let Q : List ℕ → Type 0 = λ n. IsPermitted may n s.0.content in
    subst P s.2 (subst Q f.placed.1 f.contents_permitted)

-- The observed content of a filled row is its content from the fill.
pub filled_files : (may : List ℕ → Content → Type 0) (stock : ShelfView) (observations : List Observation) → IsPass may stock observations → Agree stock.filled (files_of observations)
filled_files may stock observations is row c d filled known =
    let s = shown_of observations row d known in
    let within : row < length stock.names = let k = known_within observations row d known in let l = is.len in omega arith in
    let f = (is.rows row within).fits s.0 s.1 in
    let file = file_in stock.profile stock.names row in
    let b : LoadedView = held file c in
    let there : (row_state_at stock row).filled ≡ Some b = ap (option_map (held file)) filled in
    elim f.from [
      | inl e ↦ ap (λ (h : LoadedView). h.content) (same_Some b s.0 (sym there ∙ e)) ∙ s.2
      | inr n ↦ absurd (none-some b (sym n.0 ∙ there))
    ]

-- After h is shown for a row, the files have the content of h there.
pub files_of-set : (observations : List Observation) (row : ℕ) (s : Observation) (h : LoadedView) → s.shown ≡ Some h → files_of (set observations row s) ≡ set (files_of observations) row (Some h.content)
files_of-set observations row s h is = map-set content_of_sight observations row s ∙ ap (λ (o : Option LoadedView). set (files_of observations) row (option_map (λ (x : LoadedView). x.content) o)) is

-- If nothing new is shown for a row, the files don't change.
pub files_of-same : (observations : List Observation) (row : ℕ) (s old : Observation)
    → row < length observations
    → old ≡ get_or observations row old
    → s.shown ≡ old.shown
    → files_of (set observations row s) ≡ files_of observations
files_of-same observations row s old within read is =
    let same : old ≡ get_or observations row no_observation = get_or_read observations row old within read no_observation in
    map-set_same content_of_sight observations row s no_observation (ap (λ (o : Option LoadedView). option_map (λ (x : LoadedView). x.content) o) (is ∙ ap (λ (x : Observation). x.shown) same))

-- Observations of the first n rows in which no content was shown.
pub record Unseen (stock : List RowState) (observations : List Observation) (n : ℕ) : Type 0 where
  pub len : length observations ≡ n
  pub each : (row : ℕ) → row < n → ((get_or observations row no_observation).cell ≡ (get_or stock row no_row_state).cell) × ((get_or observations row no_observation).shown ≡ None)
  pub files : files_of observations ≡ replicate n None

pub unseen_pass : (may : List ℕ → Content → Type 0) (profile : Profile) (names : NamesView) (rows : List RowState) (observations : List Observation)
    → length rows ≡ length names.names
    → Unseen rows observations (length rows)
    → IsPass may (shelf_view profile names rows) observations
unseen_pass may profile names rows observations count u = record {
  len = u.len ∙ count;
  rows = λ row below.
      let e = u.each row (omega arith) in
      record { cell_is = e.0 ∙ sym (get_or-map (λ (s : RowState). s.cell) rows row no_row_state); fits = λ h is. absurd (none-some h (sym e.1 ∙ is)) };
}

set_here : (xs : List Observation) (n row : ℕ) (s : Observation) → row ≡ n → n < length xs → get_or (set xs n s) row no_observation ≡ s
set_here xs n row s e w = grind (arith, common_steps)

set_there : (xs : List Observation) (n row : ℕ) (s : Observation) → (row ≡ n → ⊥) → get_or (set xs n s) row no_observation ≡ get_or xs row no_observation
set_there xs n row s e = get_or-set_other xs n row s no_observation e

-- The file of a row, as callers of the shelf see it.
abbrev pub file_of : ShelfView → ℕ → FileView
file_of stock row = file_in stock.profile stock.names row

-- A pass remains a pass after a fitting observation of a row replaces the old one.
pub pass_set : (may : List ℕ → Content → Type 0) (stock : ShelfView) (observations : List Observation) (row : ℕ) (state : RowState) (s : Observation)
    → IsPass may stock observations
    → row < length stock.names
    → state ≡ row_state_at stock row
    → FitsRow may (file_of stock row) state s
    → IsPass may stock (set observations row s)
pass_set may stock observations n state s is w at fits = record {
  len = length-set observations n s ∙ is.len;
  rows = λ row within.
      elim (cases_eq row n) [
        | inl e ↦
            let P : Observation → Type 0 = λ x. FitsRow may (file_of stock row) (row_state_at stock row) x in
            let Q : RowState → Type 0 = λ x. FitsRow may (file_of stock n) x s in
            let R : ℕ → Type 0 = λ k. FitsRow may (file_of stock k) (row_state_at stock k) s in
            let len = is.len in
            subst P (sym (set_here observations n row s e (omega arith))) (subst R (sym e) (subst Q at fits))
        | inr e ↦
            let P : Observation → Type 0 = λ x. FitsRow may (file_of stock row) (row_state_at stock row) x in
            subst P (sym (set_there observations n row s e)) (is.rows row within)
      ];
}

-- ---- looking at a row of a shelf

-- A shelf as callers see it, and as it is: its names and its rows.
pub record SeenShelf (profile : Profile) (names : NamesView) (rows : List RowState) (stock : ShelfView) : Type 0 where
  pub shelf : IsShelf profile names.names rows
  pub same : stock ≡ shelf_view profile names rows

module _ (profile : Profile) (names : NamesView) (rows : List RowState) (stock : ShelfView) (seen : SeenShelf profile names rows stock) (row : ℕ) (state : RowState) where
  -- A row that the shelf has names for is there.
  pub row_there : row < length stock.names → row < length rows
  row_there within = let e = ap (λ (x : ShelfView). length x.names) seen.same in let c = seen.shelf.count in omega arith

  -- The state of the row, as callers of the shelf see it.
  pub state_is : row < length stock.names → state ≡ get_or rows row state → state ≡ row_state_at stock row
  state_is within read =
      spot_is profile names rows row state seen.shelf.placed (row_there within) read ∙ ap (λ (x : ShelfView). row_state_at x row) (sym seen.same)

  pub fits_at : (may : List ℕ → Content → Type 0) (observations : List Observation) (s : Observation)
      → row < length stock.names
      → state ≡ get_or rows row state
      → IsPass may stock observations
      → s ≡ get_or observations row s
      → FitsRow may (file_of stock row) state s
  fits_at may observations s within read is mine =
      let len = is.len in
      let P : Observation → Type 0 = λ x. FitsRow may (file_of stock row) state x in
      let Q : RowState → Type 0 = λ x. FitsRow may (file_of stock row) x (get_or observations row no_observation) in
      subst P (sym (get_or_read observations row s (omega arith) mine no_observation)) (subst Q (sym (state_is within read)) (is.rows row within))

  pub shown_pass : (may : List ℕ → Content → Type 0) (observations : List Observation) (s : Observation)
      → row < length stock.names
      → state ≡ get_or rows row state
      → IsPass may stock observations
      → FitsRow may (file_of stock row) state s
      → IsPass may stock (set observations row s)
  shown_pass may observations s within read is fits = pass_set may stock observations row state s is within (state_is within read) fits

-- The pass `new` is `old` merged with `other` at the rows from n on.
pub record Met (may : List ℕ → Content → Type 0) (stock : ShelfView) (old other new : List Observation) (n : ℕ) : Type 0 where
  pub is : IsPass may stock new
  pub cached : (row : ℕ) → row < n → get_or new row no_observation ≡ get_or old row no_observation
  pub joined : (row : ℕ) → n ≤ row → row < length stock.names → (get_or new row no_observation).shown ≡ or_else (get_or old row no_observation).shown (get_or other row no_observation).shown
  pub agree : (row : ℕ) → n ≤ row → row < length stock.names → (h k : LoadedView) → (get_or old row no_observation).shown ≡ Some h → (get_or other row no_observation).shown ≡ Some k → h ≡ k

pub met_more : (may : List ℕ → Content → Type 0) (stock : ShelfView) (old other new : List Observation) (n : ℕ) (state : RowState) (mine theirs s : Observation)
    → Met may stock old other new (n + 1)
    → n < length stock.names
    → state ≡ row_state_at stock n
    → mine ≡ get_or new n mine
    → theirs ≡ get_or other n no_observation
    → FitsRow may (file_of stock n) state s
    → s.shown ≡ or_else mine.shown theirs.shown
    → ((h k : LoadedView) → mine.shown ≡ Some h → theirs.shown ≡ Some k → h ≡ k)
    → Met may stock old other (set new n s) n
met_more may stock old other new n state mine theirs s m w at mine_read theirs_is fits shown agree =
    let len = m.is.len in
    let mine_is : mine ≡ get_or new n no_observation = get_or_read new n mine (omega arith) mine_read no_observation in
    let old_is : mine ≡ get_or old n no_observation = mine_is ∙ m.cached n (omega arith) in
    record {
      is = pass_set may stock new n state s m.is w at fits;
      cached = λ row below. set_there new n row s (λ e. absurd (omega arith)) ∙ m.cached row (omega arith);
      joined = λ row above within.
          elim (cases_eq row n) [
            | inl e ↦
                let P : ℕ → Type 0 = λ k. (get_or (set new n s) k no_observation).shown ≡ or_else (get_or old k no_observation).shown (get_or other k no_observation).shown in
                subst P (sym e)
                (ap (λ (x : Observation). x.shown) (set_here new n n s refl (omega arith))
                ∙ (shown
                ∙ (ap (λ (x : Observation). or_else x.shown theirs.shown) old_is ∙ ap (λ (x : Observation). or_else (get_or old n no_observation).shown x.shown) theirs_is)))
            | inr e ↦ ap (λ (x : Observation). x.shown) (set_there new n row s e) ∙ m.joined row (omega arith) within
          ];
      agree = λ row above within h k a b.
          elim (cases_eq row n) [
            | inl e ↦ agree h k (ap (λ (x : Observation). x.shown) (old_is ∙ ap (λ j. get_or old j no_observation) (sym e)) ∙ a) (ap (λ (x : Observation). x.shown) (theirs_is ∙ ap (λ j. get_or other j no_observation) (sym e)) ∙ b)
            | inr e ↦ m.agree row (omega arith) within h k a b
          ];
    }

-- After all rows are merged, the two passes agree on each row that both have observed.
pub met_agree : (may : List ℕ → Content → Type 0) (stock : ShelfView) (old other new : List Observation) → Met may stock old other new 0 → length old ≡ length stock.names → Agree (files_of old) (files_of other)
met_agree may stock old other new m len row c d a b =
    let s = shown_of old row c a in
    let t = shown_of other row d b in
    let k = known_within old row c a in
    sym s.2 ∙ (ap (λ (h : LoadedView). h.content) (m.agree row (omega arith) (omega arith) s.0 t.0 s.1 t.1) ∙ t.2)

or_else_content : (a b : Option LoadedView) → option_map (λ (h : LoadedView). h.content) (or_else a b) ≡ or_else (option_map (λ (h : LoadedView). h.content) a) (option_map (λ (h : LoadedView). h.content) b)
or_else_content None b = refl
or_else_content (Some h) b = refl

pub met_joined : (may : List ℕ → Content → Type 0) (stock : ShelfView) (old other new : List Observation)
    → Met may stock old other new 0
    → length old ≡ length stock.names
    → length other ≡ length stock.names
    → IsMerged (files_of old) (files_of other) (files_of new)
met_joined may stock old other new m lo lt row =
    let ln = m.is.len in
    let cs : List Observation → Option Content = λ xs. content_of_sight (get_or xs row no_observation) in
    files_of-at new row
    ∙ (elim (cases_lt row (length stock.names)) [
      | inl w ↦ ap (λ (o : Option LoadedView). option_map (λ (h : LoadedView). h.content) o) (m.joined row (omega arith) w) ∙ or_else_content (get_or old row no_observation).shown (get_or other row no_observation).shown
      | inr w ↦
          let past : (xs : List Observation) → length xs ≡ length stock.names → cs xs ≡ None = λ xs e. ap content_of_sight (get_or_past xs row no_observation (omega arith)) in
          past new ln ∙ sym (ap (λ (o : Option Content). or_else o (cs other)) (past old lo) ∙ past other lt)
    ]
    ∙ (ap (λ (o : Option Content). or_else o (cs other)) (sym (files_of-at old row)) ∙ ap (λ (o : Option Content). or_else (file_at (files_of old) row) o) (sym (files_of-at other row))))

pub popped_last : (other items : List Observation) (len n : ℕ) (theirs : Observation) → items ≡ take len other → theirs ≡ get_or items (len - 1) no_observation → n + 1 ≡ len → theirs ≡ get_or other n no_observation
popped_last other items len n theirs is value e = grind (arith, common_steps)

pub popped_rest : (other items rest : List Observation) (len n : ℕ) → items ≡ take len other → rest ≡ take (len - 1) items → n + 1 ≡ len → rest ≡ take n other
popped_rest other items rest len n is value e = grind (arith, common_steps)

pub fits_read : (may : List ℕ → Content → Type 0) (stock : ShelfView) (observations : List Observation) (row : ℕ) (state : RowState) (s : Observation)
    → IsPass may stock observations
    → row < length stock.names
    → state ≡ row_state_at stock row
    → s ≡ get_or observations row no_observation
    → FitsRow may (file_of stock row) state s
fits_read may stock observations row state s is w read at =
    let P : Observation → Type 0 = λ x. FitsRow may (file_of stock row) state x in
    let Q : RowState → Type 0 = λ x. FitsRow may (file_of stock row) x (get_or observations row no_observation) in
    subst P (sym at) (subst Q (sym read) (is.rows row w))

some_join : (a b c' : Option Content) (c : Content) → ((d e : Content) → a ≡ Some d → b ≡ Some e → d ≡ e) → c' ≡ or_else a b → b ≡ Some c → c' ≡ Some c
some_join None b c' c same is e = is ∙ e
some_join (Some d) b c' c same is e = is ∙ ap (λ (x : Content). Some x) (same d c refl e)

-- The merge of two passes extends the second.
pub joined_theirs : (one two both : Files) → Agree one two → IsMerged one two both → Extends both two
joined_theirs one two both agree joined row c e = some_join (file_at one row) (file_at two row) (file_at both row) c (λ d e. agree row d e) (joined row) e

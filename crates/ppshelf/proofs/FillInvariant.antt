-- The invariant of a fill, row by row, and its effect on the shelf.
use Rattle.std.proofs.Common.{Option, IsSome, ◌+◌, ◌≡◌, ℕ, ◌<◌, ◌≤◌, List, [], length, get_or, set, Some, None, refl, sym, ◌∙◌, ap, arith, ◌⊎◌, inl, inr, subst}
use Rattle.std.proofs.lemmas.List.{ext_get_or, get_or_past, get_or_read, get_or-map, get_or-set_other, get_or-set_same, length-map, length-set}
use Rattle.std.proofs.lemmas.Bool.{cases_lt, cases_eq}
use Rattle.std.proofs.lemmas.Option.{none-some}
use Rattle.ppshelf.specs.Content.{Content, readable}
use Rattle.std.specs.Option.{option_map}
use Rattle.ppshelf.specs.Names.{name_in}
use Rattle.ppshelf.specs.NamesView.{NamesView}
use Rattle.ppshelf.specs.Files.{ShelfView, IsFull, Filled, file_at, bytes_at}
use Rattle.pptext.specs.declared.sources.Profile.{Profile}
use Rattle.ppshelf.specs.code.ShelfRows.{LoadedView, FileView, file_in, RowState, FilledRow, Placed, IsShelf, filled_of, cells_of, shelf_view, no_row_state}

-- Which content a fill may put into a row.
abbrev pub Gives : Type 1
Gives = ℕ → Content → Type 0

-- The effect of a fill on the rows of a shelf that reads these names by this profile.
pub record Turned (profile : Profile) (names : List (List ℕ)) (gives : Gives) (old new : List RowState) : Type 0 where
  pub len : length new ≡ length old
  pub rows : (row : ℕ) → row < length old → FilledRow (gives row) (file_in profile names row) (get_or old row no_row_state) (get_or new row no_row_state)

pub record Filling (profile : Profile) (names : List (List ℕ)) (gives : Gives) (old new : List RowState) (n : ℕ) : Type 0 where
  pub fill_effect : Turned profile names gives old new
  pub full : (row : ℕ) → row < n → IsSome (get_or new row no_row_state).filled
  pub ahead : (row : ℕ) → n ≤ row → get_or new row no_row_state ≡ get_or old row no_row_state

-- ---- a fill, row by row

module _ (profile : Profile) (names : List (List ℕ)) (gives : Gives) (old : List RowState) where
  pub none_filled : Filling profile names gives old old 0
  none_filled = record {
    fill_effect = record { len = refl; rows = λ row w. record { cell = refl; stays = λ h e. e; put = λ h a b. absurd (none-some h (sym a ∙ b)) } };
    full = λ row w. absurd (omega arith);
    ahead = λ row w. refl;
  }

  pub turned_set : (new : List RowState) (n : ℕ) (mine s : RowState)
      → Filling profile names gives old new n
      → n < length old
      → mine ≡ get_or new n mine
      → FilledRow (gives n) (file_in profile names n) mine s
      → Turned profile names gives old (set new n s)
  turned_set new n mine s f w read fill_effect =
      let len = f.fill_effect.len in
      let at : mine ≡ get_or old n no_row_state = get_or_read new n mine (omega arith) read no_row_state ∙ f.ahead n (omega arith) in
      record {
        len = length-set new n s ∙ len;
        rows = λ row below.
            elim (cases_eq row n) [
              | inl e ↦
                  let P : ℕ → Type 0 = λ k. FilledRow (gives k) (file_in profile names k) (get_or old k no_row_state) (get_or (set new n s) k no_row_state) in
                  let Q : RowState → Type 0 = λ x. FilledRow (gives n) (file_in profile names n) (get_or old n no_row_state) x in
                  let R : RowState → Type 0 = λ x. FilledRow (gives n) (file_in profile names n) x s in
                  subst P (sym e) (subst Q (sym (get_or-set_same new n s no_row_state (omega arith))) (subst R at fill_effect))
              | inr e ↦
                  let Q : RowState → Type 0 = λ x. FilledRow (gives row) (file_in profile names row) (get_or old row no_row_state) x in
                  subst Q (sym (get_or-set_other new n row s no_row_state e)) (f.fill_effect.rows row below)
            ];
      }

  pub filling_more : (new : List RowState) (n : ℕ) (mine s : RowState)
      → Filling profile names gives old new n
      → n < length old
      → mine ≡ get_or new n mine
      → FilledRow (gives n) (file_in profile names n) mine s
      → IsSome s.filled
      → Filling profile names gives old (set new n s) (n + 1)
  filling_more new n mine s f w read fill_effect some = let len = f.fill_effect.len in record {
    fill_effect = turned_set new n mine s f w read fill_effect;
    full = λ row below.
        elim (cases_eq row n) [
          | inl e ↦
              let P : ℕ → Type 0 = λ k. IsSome (get_or (set new n s) k no_row_state).filled in
              let Q : RowState → Type 0 = λ x. IsSome x.filled in
              subst P (sym e) (subst Q (sym (get_or-set_same new n s no_row_state (omega arith))) some)
          | inr e ↦ let Q : RowState → Type 0 = λ x. IsSome x.filled in subst Q (sym (get_or-set_other new n row s no_row_state e)) (f.full row (omega arith))
        ];
    ahead = λ row above. get_or-set_other new n row s no_row_state (λ e. absurd (omega arith)) ∙ f.ahead row (omega arith);
  }

-- ---- the effect of a fill

old_or_new : (o : Option LoadedView) → (o ≡ None) ⊎ ((h : LoadedView) × (o ≡ Some h))
old_or_new None = inl refl
old_or_new (Some h) = inr (h, refl)

filled_by : (P : Content → Type 0) (old new : Option LoadedView)
    → ((h : LoadedView) → old ≡ Some h → new ≡ Some h)
    → ((h : LoadedView) → old ≡ None → new ≡ Some h → P h.content)
    → Filled P (option_map (λ (h : LoadedView). h.content) old) (option_map (λ (h : LoadedView). h.content) new)
filled_by P (Some h) new stays put = ap (option_map (λ (h : LoadedView). h.content)) (stays h refl)
filled_by P None None stays put = tt
filled_by P None (Some h) stays put = put h refl refl

some_content : (o : Option LoadedView) → IsSome o → IsSome (option_map (λ (h : LoadedView). h.content) o)
some_content None some = some
some_content (Some h) some = refl

-- The effect of a fill on a shelf, as callers see it.
pub record Fills (gives : Gives) (old new : ShelfView) : Type 0 where
  pub shelf : (new.names ≡ old.names) × (new.profile ≡ old.profile) × (new.cells ≡ old.cells)
  pub hashing : new.hashing ≡ old.hashing
  pub filled : (row : ℕ) → row < length old.names → Filled (gives row) (file_at old.filled row) (file_at new.filled row)
  pub len : length new.filled ≡ length old.names

module _ (profile : Profile) (names : NamesView) (gives : Gives) (old new : List RowState) where
  placed_turned : Placed profile names.names old → Turned profile names.names gives old new → Placed profile names.names new
  placed_turned placed t row h is =
      elim (cases_lt row (length old)) [
        | inl w ↦
            let f = t.rows row w in
            elim (old_or_new (get_or old row no_row_state).filled) [
              | inl e ↦ (f.put h e is).0
              | inr e ↦
                  let same : e.0 ≡ h = let a : Some e.0 ≡ Some h = sym (f.stays e.0 e.1) ∙ is in cc in
                  placed row h (e.1 ∙ ap (λ (x : LoadedView). Some x) same)
            ]
        | inr w ↦ absurd (none-some h (let l = t.len in ap (λ (s : RowState). s.filled) (sym (get_or_past new row no_row_state (omega arith))) ∙ is))
      ]

  cells_turned : Turned profile names.names gives old new → cells_of new ≡ cells_of old
  cells_turned t =
      let cell : RowState → ℕ = λ s. s.cell in
      let len : length (cells_of new) ≡ length (cells_of old) = length-map new cell ∙ (t.len ∙ sym (length-map old cell)) in
      ext_get_or 0 (cells_of new) (cells_of old) len (λ row below.
      let within : row < length new = let l = length-map new cell in omega arith in
      let before : row < length old = let l = t.len in omega arith in
      get_or-map cell new row no_row_state 0 within ∙ ((t.rows row before).cell ∙ sym (get_or-map cell old row no_row_state 0 before)))

  fills_turned : length old ≡ length names.names → Turned profile names.names gives old new → Fills gives (shelf_view profile names old) (shelf_view profile names new)
  fills_turned count t =
      let filled : RowState → Option Content = λ s. option_map (λ (h : LoadedView). h.content) s.filled in
      record {
        shelf = (refl, refl, cells_turned t);
        hashing = refl;
        filled = λ row below.
            let before : row < length old = omega arith in
            let within : row < length new = let l = t.len in omega arith in
            let f = t.rows row before in
            let Q : Option Content → Type 0 = λ o. Filled (gives row) o (file_at (filled_of new) row) in
            let R : Option Content → Type 0 = λ o. Filled (gives row) (filled (get_or old row no_row_state)) o in
            subst Q (sym (get_or-map filled old row no_row_state None before))
            (subst R (sym (get_or-map filled new row no_row_state None within))
            (filled_by (gives row) (get_or old row no_row_state).filled (get_or new row no_row_state).filled f.stays (λ h was now. (f.put h was now).1)));
        len = length-map new filled ∙ (t.len ∙ count);
      }

  -- After a fill of all rows, each row has a content.
  pub full_turned : (n : ℕ) → length old ≡ length names.names → length old ≤ n → Filling profile names.names gives old new n → IsFull (shelf_view profile names new)
  full_turned n count past f row below =
      let filled : RowState → Option Content = λ s. option_map (λ (h : LoadedView). h.content) s.filled in
      let l = f.fill_effect.len in
      let within : row < length new = omega arith in
      let P : Option Content → Type 0 = λ o. IsSome o in
      subst P (sym (get_or-map filled new row no_row_state None within)) (some_content (get_or new row no_row_state).filled (f.full row (omega arith)))

  shelf_turned : IsShelf profile names.names old → Turned profile names.names gives old new → IsShelf profile names.names new
  shelf_turned s t = record {
    small = let l = t.len in let m = s.small in omega arith;
    count = t.len ∙ s.count;
    placed = placed_turned s.placed t;
  }

-- A fill that leaves the profile and the names preserves the invariant of a shelf.
pub shelf_kept : {gives : Gives} {before names : NamesView} {was is : Profile} {old new : List RowState}
    → is ≡ was
    → names ≡ before
    → IsShelf was before.names old
    → Turned was before.names gives old new
    → IsShelf is names.names new
shelf_kept {gives = gives} {before = before} {was = was} {old = old} {new = new} profile names s t = rw (profile, names) (shelf_turned was before gives old new s t)

-- A fill that leaves the profile and the names fills the shelf as callers see it.
pub fills_kept : {gives : Gives} {before names : NamesView} {was is : Profile} {old new : List RowState} {now : ShelfView}
    → is ≡ was
    → names ≡ before
    → shelf_view was before old ≡ now
    → IsShelf was before.names old
    → Turned was before.names gives old new
    → Fills gives now (shelf_view is names new)
fills_kept {gives = gives} {before = before} {was = was} {old = old} {new = new} profile names view s t = rw (profile, names, ← view) (fills_turned was before gives old new s.count t)

-- If a fill that leaves the profile and the names fills all rows, each row has a content.
pub full_kept : {gives : Gives} {before names : NamesView} {was is : Profile} {old new : List RowState} (n : ℕ)
    → is ≡ was
    → names ≡ before
    → length old ≡ length before.names
    → length old ≤ n
    → Filling was before.names gives old new n
    → IsFull (shelf_view is names new)
full_kept {gives = gives} {before = before} {was = was} {is = is} {old = old} {new = new} n profile names count past f =
    let P : NamesView → Type 0 = λ ns. IsFull (shelf_view is ns new) in
    subst P (sym names) (full_turned was before gives old new n count past f)

-- What a fill gives for the names that the shelf has, it gives for those that callers see.
pub fills_named : {old new : ShelfView} (puts : List ℕ → Content → Type 0) (names : List (List ℕ))
    → names ≡ old.names
    → Fills (λ row. puts (name_in names row)) old new
    → Fills (λ row. puts (name_in old.names row)) old new
fills_named {old = old} {new = new} puts names same fills =
    let P : List (List ℕ) → Type 0 = λ ns. Fills (λ row. puts (name_in ns row)) old new in
    subst P same fills

-- The content that a fill with these contents puts in a row.
abbrev pub given : List (List ℕ) → Gives
given contents row c = c ≡ readable (bytes_at contents row)

-- The bytes with index n in the contents are those of row n.
pub bytes_here : (contents : List (List ℕ)) (row n : ℕ) (bytes : List ℕ) → row ≡ n → (n < length contents) × (bytes ≡ get_or contents n bytes) → (row < length contents) × (bytes ≡ bytes_at contents row)
bytes_here contents row n bytes e t =
    let P : ℕ → Type 0 = λ k. (k < length contents) × (bytes ≡ bytes_at contents k) in
    subst P (sym e) (t.0, get_or_read contents n bytes t.0 t.1 [])

-- A row that gets the bytes with its own index in `contents` gets its given content.
pub given_row : (contents : List (List ℕ)) (file : FileView) (row : ℕ) (bytes : List ℕ) (old new : RowState)
    → bytes ≡ bytes_at contents row
    → FilledRow (λ c. c ≡ readable bytes) file old new
    → FilledRow (given contents row) file old new
given_row contents file row bytes old new e f =
    let P : List ℕ → Type 0 = λ b. FilledRow (λ (c : Content). c ≡ readable b) file old new in
    subst P e f

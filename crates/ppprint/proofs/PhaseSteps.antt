-- Texts in which translation phases 1 and 2 change nothing, by tests that read them character by character.
use Rattle.std.proofs.Common.{◌≡◌, ℕ, zero, suc, Bool, true, false, not, ◌||◌, ◌&&◌, ◌==◌, List, [], ◌∷◌, ◌++◌, length, refl, sym, ap, ◌∙◌, subst, inl, inr, ◌⊎◌, append-nil}
use Rattle.std.specs.Prelude.{Some, None, Ok, if◌then◌else◌, IsTrue}
use Rattle.std.proofs.lemmas.Bool.{false≢true, and_parts, and_from, eqb-true, eq-eqb}
use Rattle.pptext.specs.declared.characters.Char.{Char}
use Rattle.pptext.specs.declared.sources.Profile.{Profile}
use Rattle.pptext.specs.declared.sources.Profile.TheVariants.{C11, Later, Gnu}
use Rattle.pptext.specs.Clean.{next_col, codes_of, newline, with_locations, without_bom, is_return_at, without_returns, missing_newline, terminated, line_ends}
use Rattle.pptext.specs.Clean.{trigraph, trigraph_at, trigraphs_after, trigraphs, splice_at, splices_after, splices, splice_at_end, unless_at, cleaned}
use Rattle.pptext.specs.Profiles.{is_gnu}
use Rattle.ppprint.specs.Laws.{HasNoTrigraph}
use Rattle.ppprint.proofs.LastCharacters.{last_after}
use Rattle.ppprint.proofs.LineLexemes.{codes_located}
use Rattle.ppprint.proofs.TokenLines.{is_hash}
use Rattle.pptext.proofs.KindUniqueness.{begins}

-- ---- new-lines

-- a CR or a `\` directly before a new-line
abbrev pub cuts_line : ℕ → ℕ → Bool
cuts_line c d = (c == 13 || c == 92) && d == 10

-- none is in the text behind a character
abbrev pub ends_clearly : ℕ → List ℕ → Bool
ends_clearly p [] = true
ends_clearly p (c ∷ cs) = not (cuts_line p c) && ends_clearly c cs

pub clear_append : (p : ℕ) (a b : List ℕ) → ends_clearly p a ≡ true → ends_clearly (last_after p a) b ≡ true → ends_clearly p (a ++ b) ≡ true
clear_append p [] b e f = f
clear_append p (c ∷ a) b e f =
    let h = and_parts (not (cuts_line p c)) (ends_clearly c a) e in
    and_from (not (cuts_line p c)) (ends_clearly c (a ++ b)) h.0 (clear_append c a b h.1 f)

no_return : (x y z : Bool) → not ((x || y) && z) ≡ true → x && z ≡ false
no_return true y true e = absurd (false≢true e)
no_return true y false e = refl
no_return false y z e = refl

no_splice : (x y z : Bool) → not ((x || y) && z) ≡ true → y && z ≡ false
no_splice true true true e = absurd (false≢true e)
no_splice false true true e = absurd (false≢true e)
no_splice x true false e = refl
no_splice x false z e = refl

no_first : (x : Bool) → x && (0 == newline) ≡ false
no_first true = refl
no_first false = refl

-- the rest of a text behind its first character
clear_rest : (p c : ℕ) (cs : List ℕ) → ends_clearly p (c ∷ cs) ≡ true → ends_clearly c cs ≡ true
clear_rest p c cs e = (and_parts (not (cuts_line p c)) (ends_clearly c cs) e).1

return_none : (c : Char) (cs : List Char) → ends_clearly c.code (codes_of cs) ≡ true → is_return_at (c ∷ cs) ≡ false
return_none c [] e = no_first (c.code == 13)
return_none c (d ∷ cs) e = no_return (c.code == 13) (c.code == 92) (d.code == 10) (and_parts (not (cuts_line c.code d.code)) (ends_clearly d.code (codes_of cs)) e).0

splice_none : (c : Char) (cs : List Char) → ends_clearly c.code (codes_of cs) ≡ true → splice_at (c ∷ cs) ≡ false
splice_none c [] e = no_first (c.code == 92)
splice_none c (d ∷ cs) e = no_splice (c.code == 13) (c.code == 92) (d.code == 10) (and_parts (not (cuts_line c.code d.code)) (ends_clearly d.code (codes_of cs)) e).0

keeps_returns : (p : ℕ) (cs : List Char) → ends_clearly p (codes_of cs) ≡ true → without_returns cs ≡ cs
keeps_returns p [] e = refl
keeps_returns p (c ∷ cs) e =
    let h = clear_rest p c.code (codes_of cs) e in
    ap (λ (b : Bool). if b then without_returns cs else c ∷ without_returns cs) (return_none c cs h) ∙ ap (λ z. c ∷ z) (keeps_returns c.code cs h)

keeps_splices : (p : ℕ) (cs : List Char) → ends_clearly p (codes_of cs) ≡ true → splices_after 0 cs ≡ cs
keeps_splices p [] e = refl
keeps_splices p (c ∷ cs) e =
    let h = clear_rest p c.code (codes_of cs) e in
    ap (λ (b : Bool). if b then splices_after 1 cs else c ∷ splices_after 0 cs) (splice_none c cs h) ∙ ap (λ z. c ∷ z) (keeps_splices c.code cs h)

no_end_splice : (p : ℕ) (cs : List Char) → ends_clearly p (codes_of cs) ≡ true → splice_at_end cs ≡ None
no_end_splice p [] e = refl
no_end_splice p (c ∷ cs) e =
    let h = clear_rest p c.code (codes_of cs) e in
    go (length cs == 1) (splice_at (c ∷ cs)) (splice_none c cs h) ∙ no_end_splice c.code cs h
  where
    go : (x y : Bool) → y ≡ false → (if x && y then Some c.at else splice_at_end cs) ≡ splice_at_end cs
    go true true f = absurd (false≢true (sym f))
    go true false f = refl
    go false y f = refl

-- ---- trigraphs

-- the number of question marks directly before, of two at most, after one character more
abbrev pub marks_next : ℕ → Bool → ℕ
marks_next zero true = 1
marks_next (suc n) true = 2
marks_next n false = 0

abbrev pub marks : ℕ → ℕ → ℕ
marks n c = marks_next n (c == 63)

abbrev pub marks_after : ℕ → List ℕ → ℕ
marks_after n [] = n
marks_after n (c ∷ cs) = marks_after (marks n c) cs

-- the character ends no trigraph
abbrev pub ends_none : ℕ → ℕ → Bool
ends_none zero c = true
ends_none (suc zero) c = true
ends_none (suc (suc n)) c = trigraph c == 0

abbrev pub trigraph_free : ℕ → List ℕ → Bool
trigraph_free n [] = true
trigraph_free n (c ∷ cs) = ends_none n c && trigraph_free (marks n c) cs

pub free_append : (n : ℕ) (a b : List ℕ) → trigraph_free n a ≡ true → trigraph_free (marks_after n a) b ≡ true → trigraph_free n (a ++ b) ≡ true
free_append n [] b e f = f
free_append n (c ∷ a) b e f =
    let h = and_parts (ends_none n c) (trigraph_free (marks n c) a) e in
    and_from (ends_none n c) (trigraph_free (marks n c) (a ++ b)) h.0 (free_append (marks n c) a b h.1 f)

third_none : (n : ℕ) (x y : Bool) (e : ℕ) → ends_none (marks_next (marks_next n x) y) e ≡ true → (if x && y then trigraph e else 0) ≡ 0
third_none zero true true e h = eqb-true (trigraph e) 0 h
third_none (suc n) true true e h = eqb-true (trigraph e) 0 h
third_none n true false e h = refl
third_none n false y e h = refl

trigraph_none : (n : ℕ) (c : Char) (cs : List Char) → trigraph_free n (codes_of (c ∷ cs)) ≡ true → trigraph_at (c ∷ cs) ≡ 0
trigraph_none n c [] h = refl
trigraph_none n c (d ∷ []) h = refl
trigraph_none n c (d ∷ e ∷ cs) h =
    let second = (and_parts (ends_none n c.code) (trigraph_free (marks n c.code) (codes_of (d ∷ e ∷ cs))) h).1 in
    let third = (and_parts (ends_none (marks n c.code) d.code) (trigraph_free (marks (marks n c.code) d.code) (codes_of (e ∷ cs))) second).1 in
    third_none n (c.code == 63) (d.code == 63) e.code
    (and_parts (ends_none (marks (marks n c.code) d.code) e.code) (trigraph_free (marks (marks (marks n c.code) d.code) e.code) (codes_of cs)) third).0

keeps_trigraphs : (n : ℕ) (cs : List Char) → trigraph_free n (codes_of cs) ≡ true → trigraphs_after 0 cs ≡ cs
keeps_trigraphs n [] e = refl
keeps_trigraphs n (c ∷ cs) e =
    ap (λ r. if r == 0 then c ∷ trigraphs_after 0 cs else record { code = r; at = c.at } ∷ trigraphs_after 2 cs) (trigraph_none n c cs e)
    ∙ ap (λ z. c ∷ z) (keeps_trigraphs (marks n c.code) cs (and_parts (ends_none n c.code) (trigraph_free (marks n c.code) (codes_of cs)) e).1)

-- GNU C replaces none
abbrev pub IsTrigraphFree : Profile → List ℕ → Type 0
IsTrigraphFree profile text = IsTrue (is_gnu profile) ⊎ (trigraph_free 0 text ≡ true)

keeps_all : (profile : Profile) (cs : List Char) → IsTrigraphFree profile (codes_of cs) → trigraphs profile cs ≡ cs
keeps_all Gnu cs h = refl
keeps_all C11 cs (inl e) = absurd (false≢true e)
keeps_all C11 cs (inr e) = keeps_trigraphs 0 cs e
keeps_all Later cs (inl e) = absurd (false≢true e)
keeps_all Later cs (inr e) = keeps_trigraphs 0 cs e

-- question marks and then a text, none of which is part of a trigraph
rest_none : (x : ℕ) (s : List ℕ) → HasNoTrigraph (x ∷ s) → HasNoTrigraph s
rest_none x s h before after c e = h (x ∷ before) after c (ap (λ z. x ∷ z) e)

abbrev Marked : ℕ → List ℕ → Type 0
Marked zero s = HasNoTrigraph s
Marked (suc zero) s = HasNoTrigraph (63 ∷ s)
Marked (suc (suc n)) s = HasNoTrigraph (63 ∷ 63 ∷ s)

marked_next : (n c : ℕ) (x : Bool) (cs : List ℕ) → c == 63 ≡ x → Marked n (c ∷ cs) → Marked (marks_next n x) cs
marked_next zero c true cs e h = subst (λ z. HasNoTrigraph (z ∷ cs)) (eqb-true c 63 e) h
marked_next (suc zero) c true cs e h = subst (λ z. HasNoTrigraph (63 ∷ z ∷ cs)) (eqb-true c 63 e) h
marked_next (suc (suc n)) c true cs e h = subst (λ z. HasNoTrigraph (63 ∷ z ∷ cs)) (eqb-true c 63 e) (rest_none 63 (63 ∷ c ∷ cs) h)
marked_next zero c false cs e h = rest_none c cs h
marked_next (suc zero) c false cs e h = rest_none c cs (rest_none 63 (c ∷ cs) h)
marked_next (suc (suc n)) c false cs e h = rest_none c cs (rest_none 63 (c ∷ cs) (rest_none 63 (63 ∷ c ∷ cs) h))

marked_none : (n c : ℕ) (cs : List ℕ) → Marked n (c ∷ cs) → ends_none n c ≡ true
marked_none zero c cs h = refl
marked_none (suc zero) c cs h = refl
marked_none (suc (suc n)) c cs h = eq-eqb (trigraph c) 0 (h [] cs c refl)

marked_free : (n : ℕ) (s : List ℕ) → Marked n s → trigraph_free n s ≡ true
marked_free n [] h = refl
marked_free n (c ∷ cs) h =
    and_from (ends_none n c) (trigraph_free (marks n c) cs) (marked_none n c cs h) (marked_free (marks n c) cs (marked_next n c (c == 63) cs refl h))

pub trigraphs_none : (s : List ℕ) → HasNoTrigraph s → trigraph_free 0 s ≡ true
trigraphs_none s h = marked_free 0 s h

-- ---- both phases

no_mark : (s : List ℕ) → begins is_hash s ≡ true → without_bom s ≡ s
no_mark [] e = refl
no_mark (a ∷ []) e = refl
no_mark (a ∷ b ∷ []) e = refl
no_mark (a ∷ b ∷ c ∷ s) e = ap (λ z. if z == 0xef && (b == 0xbb && c == 0xbf) then s else a ∷ b ∷ c ∷ s) (eqb-true a 35 e)

none_missing : (cs : List Char) → last_after 10 (codes_of cs) ≡ 10 → missing_newline cs ≡ []
none_missing [] e = refl
none_missing (c ∷ []) e = ap (λ b. if b then [] else record { code = newline; at = next_col c.at } ∷ []) (eq-eqb c.code 10 e)
none_missing (c ∷ d ∷ cs) e = none_missing (d ∷ cs) e

-- A text that begins with a hash and ends in a new-line stays as it is.
pub stays : (profile : Profile) (file : ℕ) (text : List ℕ)
    → begins is_hash text ≡ true
    → last_after 10 text ≡ 10
    → ends_clearly 10 text ≡ true
    → IsTrigraphFree profile text
    → cleaned profile file text ≡ Ok (with_locations file 1 1 text)
stays profile file text hash last clear free =
    let chars = with_locations file 1 1 text in
    let same : codes_of chars ≡ text = codes_located file 1 1 text in
    let clearly : ends_clearly 10 (codes_of chars) ≡ true = subst (λ z. ends_clearly 10 z ≡ true) (sym same) clear in
    let returns : without_returns (with_locations file 1 1 (without_bom text)) ≡ chars = ap (λ z. without_returns (with_locations file 1 1 z)) (no_mark text hash) ∙ keeps_returns 10 chars clearly in
    let ended : terminated chars ≡ chars = ap (λ z. chars ++ z) (none_missing chars (subst (λ z. last_after 10 z ≡ 10) (sym same) last)) ∙ append-nil chars in
    let lines : line_ends file text ≡ chars = ap terminated returns ∙ ended in
    let replaced : trigraphs profile (line_ends file text) ≡ chars = ap (trigraphs profile) lines ∙ keeps_all profile chars (subst (λ z. IsTrigraphFree profile z) (sym same) free) in
    ap (λ z. unless_at (splice_at_end z) (splices z)) replaced
    ∙ (ap (λ z. unless_at z (splices chars)) (no_end_splice 10 chars clearly) ∙ ap (λ z. Ok z) (keeps_splices 10 chars clearly))

-- Translation phases 1 and 2 change nothing in the text of items that begin with a mark.
use Rattle.std.proofs.Common.{◌≡◌, ℕ, zero, suc, ◌+◌, ◌<◌, Bool, true, false, not, ◌||◌, ◌&&◌, ◌==◌, List, [], ◌∷◌, ◌++◌, length, refl, sym, ap, ◌∙◌, subst, inl, inr, ◌⊎◌, arith, append_assoc, append-nil}
use Rattle.std.specs.Prelude.{Ok, IsTrue}
use Rattle.std.specs.List.{AllByRecursion}
use Rattle.std.specs.Str.{bytes_eq}
use Rattle.std.proofs.lemmas.Bool.{false≢true, and_parts, and_from, or_cases, eqb-true}
use Rattle.std.proofs.lemmas.Bool.Decides.{nat_tests}
use Rattle.std.proofs.lemmas.Slice.Eq.{bytes_eq-Decides}
use Rattle.pptext.specs.declared.sources.Profile.{Profile}
use Rattle.pptext.specs.declared.tokens.Kind.{Kind}
use Rattle.pptext.specs.declared.tokens.Kind.TheVariants.{Ident, Number, CharConst, Str, Punct, Header, Other}
use Rattle.pptext.specs.Clean.{with_locations, cleaned}
use Rattle.pptext.specs.Profiles.{is_gnu}
use Rattle.pptext.specs.Spellings.{Spells}
use Rattle.pptext.proofs.KindUniqueness.{begins, begins_apart, is_ident_head, is_number_head, ident_begins, number_begins, number_head, one_kind}
use Rattle.ppprint.specs.Apart.{Written, is_joint_start, must_part, are_apart}
use Rattle.ppprint.specs.Laws.{AreWellSpelled, HasNoTrigraph, HasItemNoTrigraph}
use Rattle.ppprint.specs.Shown.{Location, Turn, Shown, ShowsToken, ShowsPragma, ShowsMark}
use Rattle.ppprint.specs.Text.{spaces, text_of}
use Rattle.ppprint.proofs.ItemLines.{EndsApart, is_plain, ItemHas}
use Rattle.ppprint.proofs.LastCharacters.{last_after, last_append, is_firm, ends_firmly, spelled_end}
use Rattle.ppprint.proofs.LiteralEnds.{is_literal_head, begins_literal, char_headed, str_headed}
use Rattle.ppprint.proofs.NewLineFreeLines.{within_line, along, puts_along}
use Rattle.ppprint.proofs.PhaseSteps.{cuts_line, ends_clearly, clear_append, marks_next, marks, marks_after, trigraph_free, free_append, trigraphs_none, IsTrigraphFree, stays}
use Rattle.ppprint.proofs.ReadingBack.{Any, any_texts}
use Rattle.ppprint.proofs.SpacedLines.{Put, put_text, puts_text, AreSpaced, first_spelled}
use Rattle.ppprint.proofs.TokenEnds.{spelling_some}
use Rattle.ppprint.proofs.TokenLines.{is_hash}
use Rattle.ppprint.proofs.WholeText.{AreLines, text_lines}

-- ---- the ends of lines

-- neither a CR nor a `\`
abbrev holds_line : ℕ → Bool
holds_line c = not (c == 13 || c == 92)

firm_holds : (c : ℕ) → is_firm c ≡ true → holds_line c ≡ true
firm_holds c e = grind (arith, nat_tests)

question_holds : (c : ℕ) → c == 63 ≡ true → holds_line c ≡ true
question_holds c e = grind (arith, nat_tests)

last_spaces : (n c : ℕ) → last_after c (spaces (suc n)) ≡ 32
last_spaces zero c = refl
last_spaces (suc n) c = last_spaces n 32

-- the last character of a token that is no `\`
token_last : (s : List ℕ) (c : ℕ) → ends_firmly s ≡ true → (s ≡ 92 ∷ [] → ⊥) → holds_line (last_after c s) ≡ true
token_last [] c e other = absurd (false≢true e)
token_last (d ∷ s) c e other = elim (or_cases (is_firm (last_after d s)) (bytes_eq (d ∷ s) (92 ∷ []) || bytes_eq (d ∷ s) (63 ∷ [])) e) [
  | inl f ↦ firm_holds (last_after d s) f
  | inr f ↦ elim (or_cases (bytes_eq (d ∷ s) (92 ∷ [])) (bytes_eq (d ∷ s) (63 ∷ [])) f) [
    | inl g ↦ absurd (other ((bytes_eq-Decides (d ∷ s) (92 ∷ [])).0 g))
    | inr g ↦ subst (λ z. holds_line (last_after c z) ≡ true) (sym ((bytes_eq-Decides (d ∷ s) (63 ∷ [])).0 g)) refl
  ]
]

token_firm : (p : Put) → Spells p.token.kind p.token.text → ends_firmly p.token.text ≡ true
token_firm p t = spelled_end p.token.kind p.token.text t (spelling_some p.token.kind p.token.text t)

put_last : (p : Put) (c : ℕ) → Spells p.token.kind p.token.text → (p.token.text ≡ 92 ∷ [] → 0 < p.after) → holds_line (last_after c (put_text p)) ≡ true
put_last p c t ends =
    subst (λ z. holds_line z ≡ true) (sym (last_append c (spaces p.before ++ p.token.text) (spaces p.after) ∙ ap (λ z. last_after z (spaces p.after)) (last_append c (spaces p.before) p.token.text)))
    (go p.after (last_after c (spaces p.before)) ends)
  where
    go : (n d : ℕ) → (p.token.text ≡ 92 ∷ [] → 0 < n) → holds_line (last_after (last_after d p.token.text) (spaces n)) ≡ true
    go zero d h = token_last p.token.text d (token_firm p t) (λ e. absurd (omega (arith, h e)))
    go (suc n) d h = subst (λ z. holds_line z ≡ true) (sym (last_spaces n (last_after d p.token.text))) refl

line_last : (p : Put) (ps : List Put) (c : ℕ) → AreSpaced (p ∷ ps) → EndsApart (p ∷ ps) → holds_line (last_after c (puts_text (p ∷ ps))) ≡ true
line_last p [] c a e = subst (λ z. holds_line (last_after c z) ≡ true) (sym (append-nil (put_text p))) (put_last p c a.0 e)
line_last p (q ∷ ps) c a e = subst (λ z. holds_line z ≡ true) (sym (last_append c (put_text p) (puts_text (q ∷ ps)))) (line_last q ps (last_after c (put_text p)) a.2 e)

any_last : (ps : List Put) (c : ℕ) → AreSpaced ps → EndsApart ps → holds_line c ≡ true → holds_line (last_after c (puts_text ps)) ≡ true
any_last [] c a e h = h
any_last (p ∷ ps) c a e h = line_last p ps c a e

-- ---- new-lines

along_clear : (p : ℕ) (s : List ℕ) → along s ≡ true → ends_clearly p s ≡ true
along_clear p [] e = refl
along_clear p (c ∷ cs) e =
    let h = and_parts (within_line c) (along cs) e in
    and_from (not (cuts_line p c)) (ends_clearly c cs) (go (p == 13 || p == 92) (c == 10) h.0) (along_clear c cs h.1)
  where
    go : (x y : Bool) → not y ≡ true → not (x && y) ≡ true
    go true y f = f
    go false y f = refl

line_end_clear : (c : ℕ) (rest : List ℕ) → holds_line c ≡ true → ends_clearly 10 rest ≡ true → ends_clearly c (10 ∷ rest) ≡ true
line_end_clear c rest h later = go (c == 13 || c == 92) h
  where
    go : (x : Bool) → not x ≡ true → not (x && true) && ends_clearly 10 rest ≡ true
    go true f = absurd (false≢true f)
    go false f = later

lines_clear : {Q : List ℕ → Type 0} (text : List ℕ) → AreLines Q text → ends_clearly 10 text ≡ true
lines_clear _ AreLines.at_end = refl
lines_clear _ (AreLines.with_line {ps = ps} {rest = rest} h later) =
    clear_append 10 (puts_text ps) (10 ∷ rest) (along_clear 10 (puts_text ps) (puts_along ps h.spaced))
    (line_end_clear (last_after 10 (puts_text ps)) rest (any_last ps 10 h.spaced h.ends refl) (lines_clear rest later))

lines_last : {Q : List ℕ → Type 0} (text : List ℕ) → AreLines Q text → last_after 10 text ≡ 10
lines_last _ AreLines.at_end = refl
lines_last _ (AreLines.with_line {ps = ps} {rest = rest} h later) = last_append 10 (puts_text ps) (10 ∷ rest) ∙ lines_last rest later

-- ---- question marks

abbrev is_question : ℕ → Bool
is_question c = c == 63

ident_apart : (c : ℕ) → is_ident_head c ≡ true → is_question c ≡ true → ⊥
ident_apart c t u = grind (arith, nat_tests)

number_apart : (c : ℕ) → is_number_head c ≡ true → is_question c ≡ true → ⊥
number_apart c t u = grind (arith, nat_tests)

literal_apart : (s : List ℕ) → begins_literal s ≡ true → begins is_question s ≡ true → ⊥
literal_apart [] e f = false≢true e
literal_apart (c ∷ cs) e f = other c e f
  where
    other : (d : ℕ) → is_literal_head d ≡ true → is_question d ≡ true → ⊥
    other d t u = grind (arith, nat_tests)

two_join : is_joint_start (63 ∷ 63 ∷ []) ≡ true
unfolding is_joint_start
two_join = refl

punct_apart : (s : List ℕ) → must_part Punct Punct (63 ∷ []) s ≡ false → begins is_question s ≡ true → ⊥
punct_apart [] e f = false≢true f
punct_apart (c ∷ cs) e f = false≢true (sym e ∙ (ap (λ z. is_joint_start (63 ∷ z ∷ [])) (eqb-true c 63 f) ∙ two_join))

-- a token that isn't kept apart from a `?` doesn't begin with another
no_question : (k : Kind) (s : List ℕ) → Spells k s → must_part Punct k (63 ∷ []) s ≡ false → begins is_question s ≡ true → ⊥
no_question Ident s t e f = begins_apart is_ident_head is_question ident_apart s (ident_begins s t) f
no_question Number s t e f = begins_apart is_number_head is_question number_apart s (number_head s (number_begins s t)) f
no_question CharConst s t e f = literal_apart s (char_headed s t) f
no_question Str s t e f = literal_apart s (str_headed s t) f
no_question Punct s t e f = punct_apart s e f
no_question Header s t e f = t
no_question Other s t e f = false≢true (sym e)

-- the only kind of a `?`
question_kind : (p q : Written) → Spells p.kind p.text → p.text ≡ 63 ∷ [] → are_apart p q ≡ false → must_part Punct q.kind (63 ∷ []) q.text ≡ false
question_kind p q t e apart =
    let kind : p.kind ≡ Punct = one_kind (63 ∷ []) p.kind Punct (subst (Spells p.kind) e t) refl in
    subst (λ k. must_part k q.kind (63 ∷ []) q.text ≡ false) kind (subst (λ z. must_part p.kind q.kind z q.text ≡ false) e apart)

-- ---- trigraphs

spaces_free : (n : ℕ) (rest : List ℕ) → trigraph_free 0 rest ≡ true → trigraph_free 0 (spaces n ++ rest) ≡ true
spaces_free zero rest e = e
spaces_free (suc n) rest e = spaces_free n rest e

-- a question mark before another character is as none
after_question : (c : ℕ) (rest : List ℕ) → is_question c ≡ false → trigraph_free 0 (c ∷ rest) ≡ true → trigraph_free 1 (c ∷ rest) ≡ true
after_question c rest e f = subst (λ x. trigraph_free (marks_next 1 x) rest ≡ true) (sym e) (subst (λ x. trigraph_free (marks_next 0 x) rest ≡ true) e f)

question_free : (text : List ℕ) → begins is_question text ≡ false → trigraph_free 0 text ≡ true → trigraph_free 1 text ≡ true
question_free [] e f = refl
question_free (c ∷ cs) e f = after_question c cs e f

firm_question : (c : ℕ) → is_firm c ≡ true → is_question c ≡ false
firm_question c e = grind (arith, nat_tests)

-- after a firm character no question mark is counted
firm_marks : (n c : ℕ) (cs : List ℕ) → is_firm (last_after c cs) ≡ true → marks_after n (c ∷ cs) ≡ 0
firm_marks zero c [] e = ap (marks_next 0) (firm_question c e)
firm_marks (suc n) c [] e = ap (marks_next (suc n)) (firm_question c e)
firm_marks n c (d ∷ cs) e = firm_marks (marks n c) d cs e

-- a token before a text that doesn't continue a `?`
token_free : (s rest : List ℕ)
    → ends_firmly s ≡ true
    → HasNoTrigraph s
    → (s ≡ 63 ∷ [] → begins is_question rest ≡ false)
    → trigraph_free 0 rest ≡ true
    → trigraph_free 0 (s ++ rest) ≡ true
token_free [] rest ends none apart later = later
token_free (c ∷ s) rest ends none apart later = elim (or_cases (is_firm (last_after c s)) (bytes_eq (c ∷ s) (92 ∷ []) || bytes_eq (c ∷ s) (63 ∷ [])) ends) [
  | inl f ↦ free_append 0 (c ∷ s) rest (trigraphs_none (c ∷ s) none) (subst (λ n. trigraph_free n rest ≡ true) (sym (firm_marks 0 c s f)) later)
  | inr f ↦ elim (or_cases (bytes_eq (c ∷ s) (92 ∷ [])) (bytes_eq (c ∷ s) (63 ∷ [])) f) [
    | inl g ↦ subst (λ z. trigraph_free 0 (z ++ rest) ≡ true) (sym ((bytes_eq-Decides (c ∷ s) (92 ∷ [])).0 g)) later
    | inr g ↦ let e : c ∷ s ≡ 63 ∷ [] = (bytes_eq-Decides (c ∷ s) (63 ∷ [])).0 g in
        subst (λ z. trigraph_free 0 (z ++ rest) ≡ true) (sym e) (question_free rest (apart e) later)
  ]
]

-- what follows a token on its line doesn't continue a `?`
next_begins : (m n : ℕ) (s rest : List ℕ) → 0 < length s → (m + n ≡ 0 → begins is_question s ≡ true → ⊥) → begins is_question (spaces m ++ (spaces n ++ (s ++ rest))) ≡ false
next_begins (suc m) n s rest some h = refl
next_begins zero (suc n) s rest some h = refl
next_begins zero zero [] rest some h = absurd (omega arith)
next_begins zero zero (c ∷ s) rest some h = go (is_question c) refl
  where
    go : (x : Bool) → is_question c ≡ x → x ≡ false
    go true e = absurd (h refl e)
    go false e = refl

end_begins : (m : ℕ) (rest : List ℕ) → begins is_question (spaces m ++ 10 ∷ rest) ≡ false
end_begins zero rest = refl
end_begins (suc m) rest = refl

put_free : (p : Put) (rest : List ℕ)
    → Spells p.token.kind p.token.text
    → HasNoTrigraph p.token.text
    → (p.token.text ≡ 63 ∷ [] → begins is_question (spaces p.after ++ rest) ≡ false)
    → trigraph_free 0 rest ≡ true
    → trigraph_free 0 (put_text p ++ rest) ≡ true
put_free p rest t none apart later =
    let group : put_text p ++ rest ≡ spaces p.before ++ (p.token.text ++ (spaces p.after ++ rest)) = simp append_assoc in
    subst (λ z. trigraph_free 0 z ≡ true) (sym group)
    (spaces_free p.before (p.token.text ++ (spaces p.after ++ rest))
    (token_free p.token.text (spaces p.after ++ rest) (token_firm p t) none apart (spaces_free p.after rest later)))

line_step : (p q : Put) (ps : List Put) (rest : List ℕ)
    → AreSpaced (p ∷ q ∷ ps)
    → HasNoTrigraph p.token.text
    → trigraph_free 0 (puts_text (q ∷ ps) ++ 10 ∷ rest) ≡ true
    → trigraph_free 0 (puts_text (p ∷ q ∷ ps) ++ 10 ∷ rest) ≡ true
line_step p q ps rest a none later =
    let text = puts_text (q ∷ ps) ++ 10 ∷ rest in
    let behind = spaces q.after ++ (puts_text ps ++ 10 ∷ rest) in
    let next = first_spelled q ps a.2 in
    let group : text ≡ spaces q.before ++ (q.token.text ++ behind) = simp append_assoc in
    subst (λ z. trigraph_free 0 z ≡ true) (sym (append_assoc (put_text p) (puts_text (q ∷ ps)) (10 ∷ rest)))
    (put_free p text a.0.0 none
    (λ e. subst (λ z. begins is_question (spaces p.after ++ z) ≡ false) (sym group)
    (next_begins p.after q.before q.token.text behind (spelling_some q.token.kind q.token.text next.0)
    (λ z. no_question q.token.kind q.token.text next.0 (question_kind p.token q.token a.0.0 e (a.1 z))))) later)

line_free : (ps : List Put) (rest : List ℕ) → AreSpaced ps → AllByRecursion (λ p. HasNoTrigraph p.token.text) ps → trigraph_free 0 rest ≡ true → trigraph_free 0 (puts_text ps ++ 10 ∷ rest) ≡ true
line_free [] rest a none later = later
line_free (p ∷ []) rest a none later =
    subst (λ z. trigraph_free 0 (z ++ 10 ∷ rest) ≡ true) (sym (append-nil (put_text p))) (put_free p (10 ∷ rest) a.0 none.0 (λ e. end_begins p.after rest) later)
line_free (p ∷ q ∷ ps) rest a none later = line_step p q ps rest a none.0 (line_free (q ∷ ps) rest a.2 none.1 later)

lines_free : (text : List ℕ) → AreLines HasNoTrigraph text → trigraph_free 0 text ≡ true
lines_free _ AreLines.at_end = refl
lines_free _ (AreLines.with_line {ps = ps} {rest = rest} h later) = line_free ps rest h.spaced h.each (lines_free rest later)

-- no trigraph is in a text without question marks
plain_none : (s : List ℕ) → is_plain s ≡ true → HasNoTrigraph s
plain_none s e before after c f = absurd (go before (subst (λ z. is_plain z ≡ true) f e))
  where
    go : (b : List ℕ) → is_plain (b ++ (63 ∷ 63 ∷ c ∷ after)) ≡ true → ⊥
    go [] g = false≢true g
    go (x ∷ b) g = go b (and_parts (not (x == 63)) (is_plain (b ++ (63 ∷ 63 ∷ c ∷ after))) g).1

-- ---- the text

stays_lines : {Q : List ℕ → Type 0} (profile : Profile) (file : ℕ) (text : List ℕ) → begins is_hash text ≡ true → AreLines Q text → IsTrigraphFree profile text → cleaned profile file text ≡ Ok (with_locations file 1 1 text)
stays_lines profile file text hash lines free = stays profile file text hash (lines_last text lines) (lines_clear text lines) free

pub stays_in_phases_1_and_2 : (profile : Profile) (file : ℕ) (at : Location) (turn : Turn) (items : List Shown)
    → AreWellSpelled (ShowsMark at turn ∷ items)
    → IsTrue (is_gnu profile) ⊎ AllByRecursion HasItemNoTrigraph (ShowsMark at turn ∷ items)
    → cleaned profile file (text_of (ShowsMark at turn ∷ items)) ≡ Ok (with_locations file 1 1 (text_of (ShowsMark at turn ∷ items)))
stays_in_phases_1_and_2 profile file at turn items spelled (inl gnu) =
    let all = ShowsMark at turn ∷ items in stays_lines profile file (text_of all) refl (text_lines Any (λ s e. tt) all spelled (any_texts all)) (inl gnu)
stays_in_phases_1_and_2 profile file at turn items spelled (inr none) =
    let all = ShowsMark at turn ∷ items in
    let lines = text_lines HasNoTrigraph plain_none all spelled (none_has all none) in
    stays_lines profile file (text_of all) refl lines (inr (lines_free (text_of all) lines))
  where
    none_has : (all : List Shown) → AllByRecursion HasItemNoTrigraph all → AllByRecursion (ItemHas HasNoTrigraph) all
    none_has [] h = tt
    none_has (ShowsToken l t ∷ more) h = (h.0, none_has more h.1)
    none_has (ShowsPragma l ts ∷ more) h = (h.0, none_has more h.1)
    none_has (ShowsMark l turn ∷ more) h = (h.0, none_has more h.1)

-- What is shown of a unit's items is well spelled, and named by its marks.
use Rattle.std.proofs.Common.{◌≡◌, ℕ, zero, suc, ◌-◌, Bool, true, false, not, ◌==◌, List, [], ◌∷◌, length, take, drop, map, codes, refl, sym, ap, ◌∙◌, subst, inl, inr, if◌then◌else◌}
use Rattle.std.specs.Prelude.{Option, Some, None}
use Rattle.std.specs.List.{AllByRecursion, prefix_len}
use Rattle.std.specs.Option.{option_map}
use Rattle.std.specs.Str.{bytes_eq}
use Rattle.std.proofs.lemmas.Bool.{false≢true}
use Rattle.pptext.specs.declared.tokens.Kind.{Kind}
use Rattle.pptext.specs.declared.tokens.Token.{Token}
use Rattle.pptext.specs.Kinds.{spelled_kind, unmatched_quote_test}
use Rattle.pptext.specs.Sources.{IsUnmatchedQuote}
use Rattle.pptext.specs.Spellings.{is_blank, IsStr, Spells}
use Rattle.pptext.proofs.TextKinds.{tests_are_languages}
use Rattle.ppunit.specs.declared.units.Item.{Item}
use Rattle.ppunit.specs.declared.units.Item.TheVariants as item
use Rattle.ppunit.specs.declared.units.Mark.{Mark}
use Rattle.ppprint.specs.Laws.{IsSpelled, IsWellSpelled, AreWellSpelled, AreNamed, IsItemSpelled, HasNumber}
use Rattle.ppprint.specs.Located.{Numbering, unnumbered, renumbered, pragma_token, located, shown}
use Rattle.ppprint.specs.Operators.{longest_token, through_close, Beginning, Blanks, Begins, Breaks, token_beginning, comment_beginning, beginning, pragma_token_of, tokens_after}
use Rattle.ppprint.specs.Operators.{destringized, pragma_of, operator_at, with_operators, is_own, is_for_compilers, left_to_compilers}
use Rattle.ppprint.specs.Shown.{PragmaToken, Shown, ShowsToken, ShowsPragma, ShowsMark}
use Rattle.ppprint.specs.Text.{written, pragma_written}

-- tokens of a pragma that are spelled by their kinds
abbrev AreSpelled : List PragmaToken → Type 0
AreSpelled ts = AllByRecursion (λ t. IsSpelled (pragma_written t)) ts

-- ---- locations

located_named : (n : Numbering) (items : List Item) → AreNamed n.name (located n items)
located_named n [] = tt
located_named n (item.Token t ∷ items) = (refl, located_named n items)
located_named n (item.Pragma at ts ∷ items) = (refl, located_named n items)
located_named n (item.Mark m ∷ items) = located_named (renumbered n m) items

pragma_tokens : (ts : List Token) → AllByRecursion (λ t. IsSpelled (written t)) ts → AreSpelled (map pragma_token ts)
pragma_tokens [] a = tt
pragma_tokens (t ∷ ts) a = (a.0, pragma_tokens ts a.1)

located_spelled : (n : Numbering) (items : List Item) → IsStr n.name → AllByRecursion IsItemSpelled items → AllByRecursion HasNumber (located n items) → AreWellSpelled (located n items)
located_spelled n [] name a h = tt
located_spelled n (item.Token t ∷ items) name a h = ((record { name = name; line = h.0 }, a.0), located_spelled n items name a.1 h.1)
located_spelled n (item.Pragma at ts ∷ items) name a h = ((record { name = name; line = h.0 }, pragma_tokens ts a.0), located_spelled n items name a.1 h.1)
located_spelled n (item.Mark m ∷ items) name a h = (record { name = a.0; line = h.0 }, located_spelled (renumbered n m) items a.0 a.1 h.1)

-- ---- the tokens of an operator's text

-- a kind and a length, or nothing
abbrev Found : Type 0
Found = Option (Kind × ℕ)

abbrev found_kind : Kind → ℕ → Found
found_kind k n = Some (k, n)

kind_or : Kind → Found → Kind
kind_or d None = d
kind_or d (Some p) = p.0

length_or : Found → ℕ
length_or None = 0
length_or (Some p) = p.1

same_found : (j k : Kind) (m n : ℕ) → found_kind j m ≡ found_kind k n → (j ≡ k) × (m ≡ n)
unfolding kind_or length_or
same_found j k m n e = (ap (kind_or j) e, ap length_or e)

longest_kind : (n : ℕ) (text : List ℕ) (k : Kind) (m : ℕ) → longest_token n text ≡ found_kind k m → spelled_kind (take m text) ≡ Some k
longest_kind zero text k m e = absurd cc
longest_kind (suc n) text k m e = go (spelled_kind (take (suc n) text)) refl e (longest_kind n text k m)
  where
    go : (o : Option Kind)
        → spelled_kind (take (suc n) text) ≡ o
        → ◌≡◌ {A = Found} (elim o [ Some j ↦ Some (j, suc n) | None ↦ longest_token n text ]) (found_kind k m)
        → (longest_token n text ≡ found_kind k m → spelled_kind (take m text) ≡ Some k)
        → spelled_kind (take m text) ≡ Some k
    go None f g later = later g
    go (Some j) f g later =
        let same = same_found j k (suc n) m g in
        subst (λ z. spelled_kind (take z text) ≡ Some k) same.1 (f ∙ ap (λ z. Some z) same.0)

not_lone : (s : List ℕ) → unmatched_quote_test s ≡ false → ¬ IsUnmatchedQuote s
not_lone s e (inl f) = false≢true (sym e ∙ ap unmatched_quote_test f)
not_lone s e (inr f) = false≢true (sym e ∙ ap unmatched_quote_test f)

token_begun : (text : List ℕ) (o : Option (Kind × ℕ)) (k : Kind) (n : ℕ) → token_beginning text o ≡ Begins k n → (o ≡ found_kind k n) × (unmatched_quote_test (take n text) ≡ false)
token_begun text None k n e = absurd cc
token_begun text (Some (j, m)) k n e = go (unmatched_quote_test (take m text)) refl e
  where
    go : (x : Bool)
        → unmatched_quote_test (take m text) ≡ x
        → (if x then Breaks else Begins j m) ≡ Begins k n
        → (found_kind j m ≡ found_kind k n) × (unmatched_quote_test (take n text) ≡ false)
    go true f g = absurd cc
    go false f g = let kind : j ≡ k = cc in let long : m ≡ n = cc in
        ((λ i. found_kind (kind i) (long i)), subst (λ z. unmatched_quote_test (take z text) ≡ false) long f)

plain_begun : (a b d s : Bool) (o : Option ℕ) (m n : ℕ) (k : Kind) (last : Beginning)
    → (if a then Breaks else if b then Blanks 1 else if d then comment_beginning o else if s then Blanks m else last) ≡ Begins k n
    → last ≡ Begins k n
plain_begun true b d s o m n k last e = absurd cc
plain_begun false true d s o m n k last e = absurd cc
plain_begun false false true s None m n k last e = absurd cc
plain_begun false false true s (Some c) m n k last e = absurd cc
plain_begun false false false true o m n k last e = absurd cc
plain_begun false false false false o m n k last e = e

begun : (c : ℕ) (cs : List ℕ) (k : Kind) (n : ℕ) → beginning (c ∷ cs) ≡ Begins k n → Spells k (take n (c ∷ cs)) × (¬ IsUnmatchedQuote (take n (c ∷ cs)))
begun c cs k n e =
    let text = c ∷ cs in
    let last = plain_begun (c == 10) (is_blank c) (bytes_eq (take 2 text) (codes "/*")) (bytes_eq (take 2 text) (codes "//"))
    (through_close (drop 1 cs)) (prefix_len (λ d. not (d == 10)) text) n k (token_beginning text (longest_token (length text) text)) e in
    let found = token_begun text (longest_token (length text) text) k n last in
    ((tests_are_languages.kind (take n text) k).0 (longest_kind (length text) text k n found.0), not_lone (take n text) found.1)

tokens_spelled : (skip : ℕ) (space : Bool) (text : List ℕ) (ts : List PragmaToken) → tokens_after skip space text ≡ Some ts → AreSpelled ts
tokens_spelled skip space [] ts e = subst AreSpelled (let same : ◌≡◌ {A = List PragmaToken} [] ts = cc in same) tt
tokens_spelled (suc skip) space (c ∷ cs) ts e = tokens_spelled skip space cs ts e
tokens_spelled zero space (c ∷ cs) ts e = go (beginning (c ∷ cs)) refl e (λ m b us. tokens_spelled m b cs us)
  where
    more : (k : Kind) (n : ℕ) (o : Option (List PragmaToken))
        → Spells k (take n (c ∷ cs)) × (¬ IsUnmatchedQuote (take n (c ∷ cs)))
        → option_map (λ us. pragma_token_of k space (take n (c ∷ cs)) ∷ us) o ≡ Some ts
        → ((us : List PragmaToken) → o ≡ Some us → AreSpelled us)
        → AreSpelled ts
    more k n None h f later = absurd cc
    more k n (Some us) h f later = subst AreSpelled (let same : pragma_token_of k space (take n (c ∷ cs)) ∷ us ≡ ts = cc in same) ((h.0, h.1), later us refl)

    go : (b : Beginning)
        → beginning (c ∷ cs) ≡ b
        → elim b [
          | Blanks n ↦ tokens_after (n - 1) true cs
          | Begins k n ↦ option_map (λ us. pragma_token_of k space (take n (c ∷ cs)) ∷ us) (tokens_after (n - 1) false cs)
          | Breaks ↦ None
        ] ≡ Some ts
        → ((m : ℕ) (b : Bool) (us : List PragmaToken) → tokens_after m b cs ≡ Some us → AreSpelled us)
        → AreSpelled ts
    go (Blanks n) f g later = later (n - 1) true ts g
    go (Begins k n) f g later = more k n (tokens_after (n - 1) false cs) (begun c cs k n f) g (later (n - 1) false)
    go Breaks f g later = absurd cc

pragma_tokens_spelled : (a b c d : Token) (ts : List PragmaToken) → pragma_of a b c d ≡ Some ts → AreSpelled ts
pragma_tokens_spelled a b c d ts e = go _ e
  where
    go : (x : Bool) → (if x then tokens_after 0 true (destringized c.text) else None) ≡ Some ts → AreSpelled ts
    go true f = tokens_spelled 0 true (destringized c.text) ts f
    go false f = absurd cc

-- ---- operators

-- the first n items are tokens
abbrev Skips : ℕ → List Shown → Type 0
Skips zero items = Unit {0}
Skips (suc n) (ShowsToken at t ∷ items) = Skips n items
Skips (suc n) items = ⊥

-- a pragma that is made of four tokens, of which this is the first
record Makes (p i : Shown) (items : List Shown) : Type 0 where
  skips : Skips 3 items
  rest : (name : List ℕ) → AreNamed name (i ∷ items) → AreNamed name items
  named : (name : List ℕ) (more : List Shown) → AreNamed name (i ∷ items) → AreNamed name more → AreNamed name (p ∷ more)
  spelled : AreWellSpelled (i ∷ items) → IsWellSpelled p

operator_makes : (i : Shown) (items : List Shown) (p : Shown) → operator_at (i ∷ items) ≡ Some p → Makes p i items
operator_makes (ShowsToken l a) (ShowsToken m b ∷ ShowsToken n c ∷ ShowsToken o d ∷ more) p e = go (pragma_of a b c d) refl e
  where
    items : List Shown
    items = ShowsToken m b ∷ ShowsToken n c ∷ ShowsToken o d ∷ more

    go : (x : Option (List PragmaToken)) → pragma_of a b c d ≡ x → option_map (ShowsPragma l) x ≡ Some p → Makes p (ShowsToken l a) items
    go None f g = absurd cc
    go (Some ts) f g = subst (λ z. Makes z (ShowsToken l a) items) (let same : ShowsPragma l ts ≡ p = cc in same) (record {
      skips = tt;
      rest = λ name h. h.1;
      named = λ name others h k. (h.0, k);
      spelled = λ h. (h.0.0, pragma_tokens_spelled a b c d ts f);
    })
operator_makes i items p e = absurd cc

named_head : (i : Shown) (items others : List Shown) (name : List ℕ) → AreNamed name (i ∷ items) → ((other : List ℕ) → AreNamed other items → AreNamed other others) → AreNamed name (i ∷ others)
named_head (ShowsToken at t) items others name h later = (h.0, later name h.1)
named_head (ShowsPragma at ts) items others name h later = (h.0, later name h.1)
named_head (ShowsMark at turn) items others name h later = later at.name h

with_named : (skip : ℕ) (items : List Shown) (name : List ℕ) → Skips skip items → AreNamed name items → AreNamed name (with_operators skip items)
with_named skip [] name s h = tt
with_named (suc skip) (ShowsToken at t ∷ items) name s h = with_named skip items name s h.1
with_named (suc skip) (ShowsPragma at ts ∷ items) name s h = absurd s
with_named (suc skip) (ShowsMark at turn ∷ items) name s h = absurd s
with_named zero (i ∷ items) name s h = go (operator_at (i ∷ items)) refl (λ other g. with_named 3 items other g) (λ other. with_named 0 items other tt)
  where
    go : (o : Option Shown)
        → operator_at (i ∷ items) ≡ o
        → ((other : List ℕ) → Skips 3 items → AreNamed other items → AreNamed other (with_operators 3 items))
        → ((other : List ℕ) → AreNamed other items → AreNamed other (with_operators 0 items))
        → AreNamed name (elim o [ Some pragma ↦ pragma ∷ with_operators 3 items | None ↦ i ∷ with_operators 0 items ])
    go None f three none = named_head i items (with_operators 0 items) name h none
    go (Some p) f three none = let made = operator_makes i items p f in made.named name (with_operators 3 items) h (three name made.skips (made.rest name h))

with_spelled : (skip : ℕ) (items : List Shown) → AreWellSpelled items → AreWellSpelled (with_operators skip items)
with_spelled skip [] h = tt
with_spelled (suc skip) (i ∷ items) h = with_spelled skip items h.1
with_spelled zero (i ∷ items) h = go (operator_at (i ∷ items)) refl (with_spelled 3 items h.1) (with_spelled 0 items h.1)
  where
    go : (o : Option Shown)
        → operator_at (i ∷ items) ≡ o
        → AreWellSpelled (with_operators 3 items)
        → AreWellSpelled (with_operators 0 items)
        → AreWellSpelled (elim o [ Some pragma ↦ pragma ∷ with_operators 3 items | None ↦ i ∷ with_operators 0 items ])
    go None f three none = (h.0, none)
    go (Some p) f three none = ((operator_makes i items p f).spelled h, three)

-- ---- the preprocessor's own pragmas

left_named : (items : List Shown) (name : List ℕ) → AreNamed name items → AreNamed name (left_to_compilers items)
left_named [] name h = tt
left_named (ShowsToken at t ∷ items) name h = (h.0, left_named items name h.1)
left_named (ShowsPragma at ts ∷ items) name h = go (is_own ts) (left_named items name h.1)
  where
    go : (x : Bool) → AreNamed name (left_to_compilers items) → AreNamed name (if not x then ShowsPragma at ts ∷ left_to_compilers items else left_to_compilers items)
    go true later = later
    go false later = (h.0, later)
left_named (ShowsMark at turn ∷ items) name h = left_named items at.name h

left_spelled : (items : List Shown) → AreWellSpelled items → AreWellSpelled (left_to_compilers items)
left_spelled [] h = tt
left_spelled (i ∷ items) h = go (is_for_compilers i) (left_spelled items h.1)
  where
    go : (x : Bool) → AreWellSpelled (left_to_compilers items) → AreWellSpelled (if x then i ∷ left_to_compilers items else left_to_compilers items)
    go true later = (h.0, later)
    go false later = later

-- ---- all

pub shows_well_spelled : (files : List (List ℕ)) (m : Mark) (items : List Item)
    → AllByRecursion IsItemSpelled (item.Mark m ∷ items)
    → AllByRecursion HasNumber (located (unnumbered files) (item.Mark m ∷ items))
    → AreWellSpelled (shown files (item.Mark m ∷ items)) × AreNamed [] (shown files (item.Mark m ∷ items))
shows_well_spelled files m items a h =
    let all = located (unnumbered files) (item.Mark m ∷ items) in
    let spelled : AreWellSpelled all = (record { name = a.0; line = h.0 }, located_spelled (renumbered (unnumbered files) m) items a.0 a.1 h.1) in
    let named : AreNamed [] all = located_named (unnumbered files) (item.Mark m ∷ items) in
    (left_spelled (with_operators 0 all) (with_spelled 0 all spelled), left_named (with_operators 0 all) [] (with_named 0 all [] tt named))

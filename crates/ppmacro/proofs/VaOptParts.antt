-- The parts of a replacement list with `__VA_OPT__`, one after another.
use Rattle.std.proofs.Common.{◌≡◌, ◌∙◌, ◌+◌, ◌<◌, ℕ, zero, suc, Bool, true, false, ◌||◌, ◌&&◌, List, [], ◌∷◌, ◌++◌, map, drop, length, get_or, Option, Some, None, slice_get, refl, sym, ap, append_assoc, arith, if◌then◌else◌}
use Rattle.std.proofs.lemmas.List.{map-append}
use Rattle.pptext.specs.declared.tokens.Token.{Token}
use Rattle.ppmacro.specs.Chains.{HashSign, ChainPart, parts_after, group_parts}
use Rattle.ppmacro.specs.declared.macros.MacroKind.{MacroKind}
use Rattle.ppmacro.specs.declared.chains.ChainPart as code
use Rattle.ppmacro.specs.declared.kept_chains.KeptChain.{KeptChain}
use Rattle.ppmacro.specs.code.ChainParts.{with_first_part, append_parts}
use Rattle.ppmacro.specs.code.KeptChains.{chains_at, part_at}
use Rattle.ppmacro.specs.code.VaOptLists.{before, tokens_at, misplaces_paste_after}
use Rattle.ppmacro.specs.HashOperators.{is_paste}
use Rattle.ppmacro.specs.Define.{is_empty, misplaces_paste}
use Rattle.ppmacro.proofs.ChainReplacementLemmas.{drop-item}

-- ---- the tokens of indices

get_or-default : (is : List ℕ) (k d e : ℕ) → k < length is → get_or is k d ≡ get_or is k e
get_or-default [] k d e less = absurd (omega (arith, less))
get_or-default (i ∷ is) zero d e less = refl
get_or-default (i ∷ is) (suc k) d e less = get_or-default is k d e (omega (arith, less))

next-index : (is : List ℕ) (k : ℕ) → k < length is → drop k is ≡ get_or is k 0 ∷ drop (k + 1) is
next-index is k less = drop-item is k (get_or is k 0) less (get_or-default is k 0 (get_or is k 0) less)

-- The next index has a token, or none.
pub next-token : (body : List Token) (is : List ℕ) (k : ℕ) (t : Token) → k < length is → slice_get body (get_or is k 0) ≡ Some t → t ∷ tokens_at body (drop (k + 1) is) ≡ tokens_at body (drop k is)
next-token body is k t less here =
    ap (λ o. before o (tokens_at body (drop (k + 1) is))) (sym here) ∙ ap (tokens_at body) (sym (next-index is k less))

pub no-token : (body : List Token) (is : List ℕ) (k : ℕ) → k < length is → slice_get body (get_or is k 0) ≡ None → tokens_at body (drop (k + 1) is) ≡ tokens_at body (drop k is)
no-token body is k less here =
    ap (λ o. before o (tokens_at body (drop (k + 1) is))) (sym here) ∙ ap (tokens_at body) (sym (next-index is k less))

-- A part is appended to those before.
pub part-pushed : (body : List Token) (kind : MacroKind) (hash : Option HashSign) (t : Token) (ts : List Token) (parts new : List code.ChainPart) (part : code.ChainPart)
    → new ≡ parts ++ part ∷ []
    → parts_after kind hash (t ∷ ts) ≡ with_first_part kind t (Some (part_at body part)) ts
    → map (part_at body) new ++ parts_after kind None ts ≡ map (part_at body) parts ++ parts_after kind hash (t ∷ ts)
part-pushed body kind hash t ts parts new part pushed is =
    ap (λ ps. map (part_at body) ps ++ parts_after kind None ts) pushed
    ∙ ap (λ ps. ps ++ parts_after kind None ts) (map-append (part_at body) parts (part ∷ []))
    ∙ append_assoc (map (part_at body) parts) (part_at body part ∷ []) (parts_after kind None ts)
    ∙ ap (λ ps. map (part_at body) parts ++ ps) (sym is)

-- ---- `##` among the tokens of indices

after-some : (last bare : Bool) (t : Token) (ts : List Token) → misplaces_paste_after last bare (t ∷ ts) ≡ misplaces_paste bare (t ∷ ts)
after-some true bare t ts = refl
after-some false bare t ts = refl

paste-after : (ts : List Token) → (is_empty ts || misplaces_paste true ts) ≡ misplaces_paste_after true true ts
paste-after [] = refl
paste-after (t ∷ ts) = refl

plain-after : (ts : List Token) → misplaces_paste false ts ≡ misplaces_paste_after false false ts
plain-after [] = refl
plain-after (t ∷ ts) = refl

paste-next : (p bare : Bool) (ts : List Token) → (p && bare) ≡ false
    → misplaces_paste_after p p ts ≡ (if p then bare || (is_empty ts || misplaces_paste true ts) else misplaces_paste false ts)
paste-next true true ts h = absurd (cc h)
paste-next true false ts h = sym (paste-after ts)
paste-next false bare ts h = sym (plain-after ts)

-- The next token leaves nothing misplaced.
pub paste-goes-on : (p last bare : Bool) (t : Token) (ts : List Token) → p ≡ is_paste t → (p && bare) ≡ false
    → misplaces_paste_after p p ts ≡ misplaces_paste_after last bare (t ∷ ts)
paste-goes-on p last bare t ts is h =
    paste-next p bare ts h
    ∙ ap (λ b. if b then bare || (is_empty ts || misplaces_paste true ts) else misplaces_paste false ts) is
    ∙ sym (after-some last bare t ts)

-- The next token is misplaced.
pub paste-found : (last bare : Bool) (t : Token) (ts : List Token) → is_paste t ≡ true → bare ≡ true → true ≡ misplaces_paste_after last bare (t ∷ ts)
paste-found last bare t ts is h = sym (after-some last bare t ts ∙ rw is (rw h refl))

-- ---- the chains of parts

pub parts-grouped : (body : List Token) (joined now : Bool) (chains new : List KeptChain) (yielded : List code.ChainPart) (part : code.ChainPart) (ps : List ChainPart)
    → append_parts now (chains_at body new) ps ≡ append_parts joined (chains_at body chains) (part_at body part ∷ ps)
    → append_parts joined (chains_at body chains) (part_at body part ∷ ps) ≡ group_parts (map (part_at body) yielded ++ part_at body part ∷ ps)
    → append_parts now (chains_at body new) ps ≡ group_parts (map (part_at body) (yielded ++ part ∷ []) ++ ps)
parts-grouped body joined now chains new yielded part ps put before =
    put ∙ before
    ∙ ap group_parts (sym (append_assoc (map (part_at body) yielded) (part_at body part ∷ []) ps))
    ∙ ap (λ qs. group_parts (qs ++ ps)) (sym (map-append (part_at body) yielded (part ∷ [])))

-- The contents of `__VA_OPT__` as chains: what each parameter stands for, and the parts in the places of the `__VA_OPT__`.
use Rattle.std.proofs.Common.{◌≡◌, ◌∙◌, ℕ, zero, suc, ◌+◌, ◌<◌, ◌≤◌, Bool, false, not, List, [], ◌∷◌, ◌++◌, map, length, replicate, get_or, unwrap_or, Vec, Global, refl, sym, ap, append_assoc, arith, if◌then◌else◌}
use Rattle.std.proofs.lemmas.Option.{slice_get_past}
use Rattle.std.proofs.lemmas.List.{length-map, length-append, map-append}
use Rattle.pptext.specs.declared.tokens.Token.{Token}
use Rattle.ppmacro.specs.declared.kept_chains.KeptChain.{KeptChain}
use Rattle.ppmacro.specs.declared.macros.Chain.{Chain}
use Rattle.ppmacro.specs.Chains.{ChainPart, OperandPart}
use Rattle.ppmacro.specs.Substitution.{argument_at, has_tokens}
use Rattle.ppmacro.specs.PreExpansion.{after_own}
use Rattle.ppmacro.specs.VaOptChains.{content_operand, content_parts, with_first_space}
use Rattle.ppmacro.specs.code.KeptChains.{chain_at, chains_at}
use Rattle.ppmacro.specs.code.KeptOperands.{operands_at}
use Rattle.ppmacro.specs.code.VaOptLists.{arguments_at}

-- ---- the content of a parameter

after-empty : (n j : ℕ) (cs : List (List Chain)) → argument_at (replicate n [] ++ cs) (n + j) ≡ argument_at cs j
after-empty zero j cs = let e : 0 + j ≡ j = omega arith in ap (argument_at cs) e
after-empty (suc n) j cs = let e : suc n + j ≡ suc (n + j) = omega arith in ap (argument_at (replicate (suc n) [] ++ cs)) e ∙ after-empty n j cs

contents-past : (cs : List (List Chain)) (j : ℕ) → length cs ≤ j → argument_at cs j ≡ []
contents-past cs j h = ap (λ o. unwrap_or o []) (slice_get_past cs j h)

content-here : (body : List Token) (vs : List (Vec KeptChain Global)) (j : ℕ) (v : Vec KeptChain Global) → j < length vs → v ≡ get_or vs j v → chains_at body v.items ≡ argument_at (arguments_at body vs) j
content-here body [] j v h e = absurd (omega (arith, h))
content-here body (w ∷ vs) zero v h e = ap (λ u. chains_at body u.items) e
content-here body (w ∷ vs) (suc j) v h e = content-here body vs j v (omega (arith, h)) e

pub content-found : (n : ℕ) (body : List Token) (vs : List (Vec KeptChain Global)) (p j : ℕ) (v : Vec KeptChain Global)
    → p ≡ suc n + j
    → j < length vs
    → v ≡ get_or vs j v
    → chains_at body v.items ≡ argument_at (after_own n (arguments_at body vs)) p
content-found n body vs p j v is h e =
    content-here body vs j v h e ∙ sym (after-empty (suc n) j (arguments_at body vs)) ∙ ap (argument_at (after_own n (arguments_at body vs))) (sym is)

pub content-missing : (n : ℕ) (body : List Token) (vs : List (Vec KeptChain Global)) (p j : ℕ)
    → p ≡ suc n + j
    → length vs ≤ j
    → [] ≡ argument_at (after_own n (arguments_at body vs)) p
content-missing n body vs p j is h =
    sym (ap (argument_at (after_own n (arguments_at body vs))) is
    ∙ after-empty (suc n) j (arguments_at body vs)
    ∙ contents-past (arguments_at body vs) j (omega (arith, length-map vs (λ v. chains_at body v.items), h)))

-- ---- a chain of a content is appended

parts-more : (i : ℕ) (cs : List Chain) (c : Chain) → content_parts i (cs ++ c ∷ []) ≡ content_parts i cs ++ OperandPart c.space (content_operand (i + length cs) c.operands) ∷ []
parts-more i [] c = let e : i ≡ i + 0 = omega arith in ap (λ j. OperandPart c.space (content_operand j c.operands) ∷ []) e
parts-more i (b ∷ cs) c =
    let e : suc i + length cs ≡ i + suc (length cs) = omega arith in
    ap (λ ps. OperandPart b.space (content_operand i b.operands) ∷ ps)
    (parts-more (suc i) cs c ∙ ap (λ j. content_parts (suc i) cs ++ OperandPart c.space (content_operand j c.operands) ∷ []) e)

pub chain-appended : (space first : Bool) (i : ℕ) (cs : List Chain) (c : Chain)
    → first ≡ not (has_tokens cs)
    → content_parts i (with_first_space space cs) ++ OperandPart (if first then space else c.space) (content_operand (i + length cs) c.operands) ∷ []
    ≡ content_parts i (with_first_space space (cs ++ c ∷ []))
chain-appended space first i [] c h =
    let e : i + 0 ≡ i = omega arith in
    ap (λ b. OperandPart (if b then space else c.space) (content_operand (i + 0) c.operands) ∷ []) h ∙ ap (λ j. OperandPart space (content_operand j c.operands) ∷ []) e
chain-appended space first i (b ∷ cs) c h =
    ap (λ q. content_parts i (record b { space = space } ∷ cs) ++ OperandPart (if q then space else c.space) (content_operand (i + suc (length cs)) c.operands) ∷ []) h
    ∙ sym (parts-more i (record b { space = space } ∷ cs) c)

-- ---- a content is appended

length-singles : (cs : List Chain) → length (map (λ c. c ∷ []) cs) ≡ length cs
length-singles cs = length-map cs (λ c. c ∷ [])

-- The number of the next parameter.
pub next-parameter : (body : List Token) (old now p q : ℕ) (before vs : List (Vec KeptChain Global)) (yielded : List KeptChain)
    → q ≡ p
    → arguments_at body vs ≡ arguments_at body before ++ map (λ c. c ∷ []) (chains_at body yielded)
    → q + length vs ≡ (p + length before) + length (chains_at body yielded)
next-parameter body old now p q before vs yielded same is =
    let counted : length vs ≡ length before + length (chains_at body yielded) =
    sym (length-map vs (λ v. chains_at body v.items)) ∙ ap length is
    ∙ length-append (arguments_at body before) (map (λ c. c ∷ []) (chains_at body yielded))
    ∙ (λ i. length-map before (λ v. chains_at body v.items) i + length-singles (chains_at body yielded) i) in
    omega (arith, counted, same)

pub has-more : {X Y : Type 0} (f : X → Y) (xs : List X) (x : X) → false ≡ not (has_tokens (map f (xs ++ x ∷ [])))
has-more f [] x = refl
has-more f (y ∷ xs) x = refl

pub singles-more : (body : List Token) (old : List (List Chain)) (yielded : List KeptChain) (chain : KeptChain)
    → (old ++ map (λ c. c ∷ []) (chains_at body yielded)) ++ (chain_at body chain ∷ []) ∷ [] ≡ old ++ map (λ c. c ∷ []) (chains_at body (yielded ++ chain ∷ []))
singles-more body old yielded chain =
    append_assoc old (map (λ c. c ∷ []) (chains_at body yielded)) ((chain_at body chain ∷ []) ∷ [])
    ∙ ap (λ x. old ++ x) (sym (map-append (λ c. c ∷ []) (chains_at body yielded) (chain_at body chain ∷ [])) ∙ ap (map (λ c. c ∷ [])) (sym (map-append (chain_at body) yielded (chain ∷ []))))

pub content-more : (body : List Token) (old : List ChainPart) (space first leading : Bool) (i j : ℕ) (yielded : List KeptChain) (chain : KeptChain)
    → first ≡ not (has_tokens (chains_at body yielded))
    → leading ≡ (if first then space else chain.space)
    → j ≡ i + length (chains_at body yielded)
    → (old ++ content_parts i (with_first_space space (chains_at body yielded))) ++ OperandPart leading (content_operand j (operands_at body chain.operands.items)) ∷ []
    ≡ old ++ content_parts i (with_first_space space (chains_at body (yielded ++ chain ∷ [])))
content-more body old space first leading i j yielded chain h l e =
    append_assoc old (content_parts i (with_first_space space (chains_at body yielded))) (OperandPart leading (content_operand j (operands_at body chain.operands.items)) ∷ [])
    ∙ ap (λ ps. old ++ ps)
    ((λ k. content_parts i (with_first_space space (chains_at body yielded)) ++ OperandPart (l k) (content_operand (e k) (operands_at body chain.operands.items)) ∷ [])
    ∙ chain-appended space first i (chains_at body yielded) (chain_at body chain) h
    ∙ ap (λ cs. content_parts i (with_first_space space cs)) (sym (map-append (chain_at body) yielded (chain ∷ []))))

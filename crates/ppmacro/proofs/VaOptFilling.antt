-- The parts of a replacement list with the contents in the places of the `__VA_OPT__`, one part at a time.
use Rattle.std.proofs.Common.{◌≡◌, ◌∙◌, ℕ, zero, suc, ◌+◌, ◌≤◌, drop, true, false, List, [], ◌∷◌, ◌++◌, map, length, refl, sym, ap, append_assoc, arith, Vec, Global, if◌then◌else◌}
use Rattle.std.proofs.lemmas.List.{length-map, length-append, map-append}
use Rattle.pptext.specs.declared.tokens.Token.{Token}
use Rattle.ppmacro.specs.declared.kept_chains.KeptChain.{KeptChain}
use Rattle.ppmacro.specs.declared.macros.Chain.{Chain}
use Rattle.ppmacro.specs.declared.chains.ChainPart as code
use Rattle.ppmacro.specs.Chains.{ChainPart}
use Rattle.ppmacro.specs.VaOptChains.{is_va_opt_part, argument_chains, parts_for, parts_with, arguments_with}
use Rattle.ppmacro.specs.code.KeptChains.{chains_at, part_at}
use Rattle.ppmacro.specs.code.VaOptLists.{arguments_at}

-- ---- the next part

no-contents : (n i : ℕ) (ps : List ChainPart) → parts_with n i ps [] ≡ ps
no-contents n i [] = refl
no-contents n i (p ∷ ps) = refl

no-arguments : (n : ℕ) (ps : List ChainPart) → arguments_with n ps [] ≡ []
no-arguments n [] = refl
no-arguments n (p ∷ ps) = refl

other-part : (n i : ℕ) (p : ChainPart) (ps : List ChainPart) (cs : List (List Chain)) → is_va_opt_part n p ≡ false → p ∷ parts_with n i ps cs ≡ parts_with n i (p ∷ ps) cs
other-part n i p ps [] is = ap (λ qs. p ∷ qs) (no-contents n i ps)
other-part n i p ps (c ∷ cs) is =
    ap (λ b. if b then parts_for p i c ++ parts_with n (i + length (argument_chains p c)) ps cs else p ∷ parts_with n i ps (c ∷ cs)) (sym is)

other-arguments : (n : ℕ) (p : ChainPart) (ps : List ChainPart) (cs : List (List Chain)) → is_va_opt_part n p ≡ false → arguments_with n ps cs ≡ arguments_with n (p ∷ ps) cs
other-arguments n p ps [] is = no-arguments n ps
other-arguments n p ps (c ∷ cs) is = ap (λ b. if b then argument_chains p c ++ arguments_with n ps cs else arguments_with n ps (c ∷ cs)) (sym is)

filled-part : (n i : ℕ) (p : ChainPart) (ps : List ChainPart) (c : List Chain) (cs : List (List Chain)) → is_va_opt_part n p ≡ true
    → parts_for p i c ++ parts_with n (i + length (argument_chains p c)) ps cs ≡ parts_with n i (p ∷ ps) (c ∷ cs)
filled-part n i p ps c cs is =
    ap (λ b. if b then parts_for p i c ++ parts_with n (i + length (argument_chains p c)) ps cs else p ∷ parts_with n i ps (c ∷ cs)) (sym is)

filled-arguments : (n : ℕ) (p : ChainPart) (ps : List ChainPart) (c : List Chain) (cs : List (List Chain)) → is_va_opt_part n p ≡ true
    → argument_chains p c ++ arguments_with n ps cs ≡ arguments_with n (p ∷ ps) (c ∷ cs)
filled-arguments n p ps c cs is = ap (λ b. if b then argument_chains p c ++ arguments_with n ps cs else arguments_with n ps (c ∷ cs)) (sym is)

-- ---- all parts so far

-- The parts and arguments so far, followed by those of the rest, are those of the whole list.
abbrev pub Fills : List Token → ℕ → List code.ChainPart → List (Vec KeptChain Global) → List code.ChainPart → List (Vec KeptChain Global) → ℕ → List code.ChainPart → List (Vec KeptChain Global) → Type 0
Fills body n yielded left parts arguments i all_parts contents =
    ((ps : List ChainPart) → map (part_at body) parts ++ parts_with n (i + length arguments) ps (arguments_at body left) ≡ parts_with n i (map (part_at body) yielded ++ ps) (arguments_at body contents))
    × ((ps : List ChainPart) → arguments_at body arguments ++ arguments_with n ps (arguments_at body left) ≡ arguments_with n (map (part_at body) yielded ++ ps) (arguments_at body contents))

pub nothing-left : {X : Type 0} (xs : List X) (k : ℕ) → length xs ≤ k → drop k xs ≡ []
nothing-left [] zero h = refl
nothing-left [] (suc k) h = refl
nothing-left (x ∷ xs) zero h = absurd (omega (arith, h))
nothing-left (x ∷ xs) (suc k) h = nothing-left xs k (omega (arith, h))

yielded-more : (body : List Token) (yielded : List code.ChainPart) (part : code.ChainPart) (ps : List ChainPart)
    → map (part_at body) yielded ++ part_at body part ∷ ps ≡ map (part_at body) (yielded ++ part ∷ []) ++ ps
yielded-more body yielded part ps =
    sym (append_assoc (map (part_at body) yielded) (part_at body part ∷ []) ps)
    ∙ ap (λ qs. qs ++ ps) (sym (map-append (part_at body) yielded (part ∷ [])))

pushed-parts : (body : List Token) (parts new : List code.ChainPart) (part : code.ChainPart) (qs : List ChainPart)
    → new ≡ parts ++ part ∷ []
    → map (part_at body) new ++ qs ≡ map (part_at body) parts ++ part_at body part ∷ qs
pushed-parts body parts new part qs is =
    ap (λ ps. map (part_at body) ps ++ qs) is
    ∙ ap (λ ps. ps ++ qs) (map-append (part_at body) parts (part ∷ []))
    ∙ append_assoc (map (part_at body) parts) (part_at body part ∷ []) qs

module _ (body : List Token) (n : ℕ) (yielded : List code.ChainPart) (left : List (Vec KeptChain Global)) (parts : List code.ChainPart) (arguments : List (Vec KeptChain Global))
    (i : ℕ) (all_parts : List code.ChainPart) (contents : List (Vec KeptChain Global)) (fills : Fills body n yielded left parts arguments i all_parts contents) (part : code.ChainPart) where
  -- Another part stays.
  pub fills-other : (new : List code.ChainPart) → new ≡ parts ++ part ∷ [] → is_va_opt_part n (part_at body part) ≡ false
      → Fills body n (yielded ++ part ∷ []) left new arguments i all_parts contents
  fills-other new pushed is = (
    λ ps. pushed-parts body parts new part (parts_with n (i + length arguments) ps (arguments_at body left)) pushed
        ∙ ap (λ qs. map (part_at body) parts ++ qs) (other-part n (i + length arguments) (part_at body part) ps (arguments_at body left) is)
        ∙ fills.0 (part_at body part ∷ ps)
        ∙ ap (λ qs. parts_with n i qs (arguments_at body contents)) (yielded-more body yielded part ps),
    λ ps. ap (λ as'. arguments_at body arguments ++ as') (other-arguments n (part_at body part) ps (arguments_at body left) is)
        ∙ fills.1 (part_at body part ∷ ps)
        ∙ ap (λ qs. arguments_with n qs (arguments_at body contents)) (yielded-more body yielded part ps),
  )

  -- A `__VA_OPT__` without a content stays, too.
  pub fills-missing : (new : List code.ChainPart) → new ≡ parts ++ part ∷ [] → left ≡ [] → Fills body n (yielded ++ part ∷ []) left new arguments i all_parts contents
  fills-missing new pushed none = (
    λ ps. pushed-parts body parts new part (parts_with n (i + length arguments) ps (arguments_at body left)) pushed
        ∙ ap (λ qs. map (part_at body) parts ++ part_at body part ∷ qs)
        (ap (λ vs. parts_with n (i + length arguments) ps (arguments_at body vs)) none ∙ no-contents n (i + length arguments) ps)
        ∙ ap (λ vs. map (part_at body) parts ++ parts_with n (i + length arguments) (part_at body part ∷ ps) (arguments_at body vs)) (sym none)
        ∙ fills.0 (part_at body part ∷ ps)
        ∙ ap (λ qs. parts_with n i qs (arguments_at body contents)) (yielded-more body yielded part ps),
    λ ps. ap (λ as'. arguments_at body arguments ++ as')
        (ap (λ vs. arguments_with n ps (arguments_at body vs)) none ∙ no-arguments n ps ∙ ap (λ vs. arguments_with n (part_at body part ∷ ps) (arguments_at body vs)) (sym none))
        ∙ fills.1 (part_at body part ∷ ps)
        ∙ ap (λ qs. arguments_with n qs (arguments_at body contents)) (yielded-more body yielded part ps),
  )

  -- The next content takes the place of a `__VA_OPT__`.
  pub fills-content : (content : Vec KeptChain Global) (rest : List (Vec KeptChain Global)) (new : List code.ChainPart) (more : List (Vec KeptChain Global))
      → left ≡ content ∷ rest
      → map (part_at body) new ≡ map (part_at body) parts ++ parts_for (part_at body part) (i + length arguments) (chains_at body content.items)
      → arguments_at body more ≡ arguments_at body arguments ++ argument_chains (part_at body part) (chains_at body content.items)
      → is_va_opt_part n (part_at body part) ≡ true
      → Fills body n (yielded ++ part ∷ []) rest new more i all_parts contents
  fills-content content rest new more next put added is =
      let p = part_at body part in
      let c = chains_at body content.items in
      let cs = arguments_at body rest in
      let counted : i + length more ≡ (i + length arguments) + length (argument_chains p c) =
      let l = sym (length-map more (λ v. chains_at body v.items)) ∙ ap length added ∙ length-append (arguments_at body arguments) (argument_chains p c) in
      let m = length-map arguments (λ v. chains_at body v.items) in
      omega (arith, l, m) in (
        λ ps. (λ k. put k ++ parts_with n (counted k) ps cs)
            ∙ append_assoc (map (part_at body) parts) (parts_for p (i + length arguments) c) (parts_with n ((i + length arguments) + length (argument_chains p c)) ps cs)
            ∙ ap (λ qs. map (part_at body) parts ++ qs) (filled-part n (i + length arguments) p ps c cs is)
            ∙ ap (λ vs. map (part_at body) parts ++ parts_with n (i + length arguments) (p ∷ ps) (arguments_at body vs)) (sym next)
            ∙ fills.0 (p ∷ ps)
            ∙ ap (λ qs. parts_with n i qs (arguments_at body contents)) (yielded-more body yielded part ps),
        λ ps. ap (λ as'. as' ++ arguments_with n ps cs) added
            ∙ append_assoc (arguments_at body arguments) (argument_chains p c) (arguments_with n ps cs)
            ∙ ap (λ as'. arguments_at body arguments ++ as') (filled-arguments n p ps c cs is ∙ ap (λ vs. arguments_with n (p ∷ ps) (arguments_at body vs)) (sym next))
            ∙ fills.1 (p ∷ ps)
            ∙ ap (λ qs. arguments_with n qs (arguments_at body contents)) (yielded-more body yielded part ps),
      )

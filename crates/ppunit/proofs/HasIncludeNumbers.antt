-- Replacing the has-include operators by numbers, token by token.
use Rattle.std.proofs.Common.{◌≡◌, ℕ, suc, ◌+◌, ◌-◌, ◌<◌, Bool, true, false, ◌&&◌, List, [], ◌∷◌, ◌++◌, Some, None, Result, Ok, Err, append_assoc, append-nil}
use Rattle.std.proofs.Common.{length, take, drop, codes, arith, refl, sym, ap, ◌∙◌, subst}
use Rattle.std.specs.List.{list_any}
use Rattle.std.proofs.lemmas.Bool.{or_parts}
use Rattle.std.proofs.lemmas.List.{length-drop}
use Rattle.std.proofs.lemmas.Grind.{common_steps}
use Rattle.pptext.specs.declared.tokens.Token.{Token}
use Rattle.pptext.specs.declared.tokens.Fault.{Fault}
use Rattle.ppexpand.specs.declared.meter.Meter.{Meter}
use Rattle.ppunit.specs.States.{Search, State, with_meter}
use Rattle.ppunit.specs.DirectiveLines.{line_fault}
use Rattle.ppunit.specs.Including.{IncludeName}
use Rattle.ppunit.specs.Probing.{is_operator, begins_with, applies, operand_end, NamesOperand, directory_before, has_file, number_for, after_first, Probes}
use Rattle.ppunit.specs.Counts.{count_probes}

-- Tokens with equal fields are equal.
pub same_token : (u t : Token) → (u.text ≡ t.text) × ((u.at ≡ t.at) × ((u.used ≡ t.used) × ((u.kind ≡ t.kind) × (u.space ≡ t.space)))) → u ≡ t
same_token u t e = λ i. record { text = e.0 i; at = e.1.0 i; used = e.1.1.0 i; kind = e.1.1.1.0 i; space = e.1.1.1.1 i }

-- the slice after an index
pub rest_behind : (ts : List Token) (i : ℕ) → take (length ts - (i + 1)) (drop (i + 1) ts) ≡ drop (suc i) ts
rest_behind ts i = let same : i + 1 ≡ suc i = omega arith in rw same (grind (arith, common_steps))

-- The tokens behind an operand are fewer than those from its operator on.
pub fewer_behind : (rest ts inside : List Token) (u : Token) (end : ℕ) → rest ≡ u ∷ ts → inside ≡ drop 1 ts → length (take (length inside - (end + 1)) (drop (end + 1) inside)) < length rest
fewer_behind rest ts inside u end split inner =
    let behind : length (take (length inside - (end + 1)) (drop (end + 1) inside)) ≡ length (drop (suc end) inside) = ap length (rest_behind inside end) in
    let dropped : length (drop (suc end) inside) ≡ length inside - suc end = length-drop (suc end) inside in
    let first : length inside ≡ length ts - 1 = ap length inner ∙ length-drop 1 ts in
    let all : length rest ≡ suc (length ts) = ap length split in
    omega arith

nothing_left : (ts : List Token) → length ts ≡ 0 → ts ≡ []
nothing_left [] e = refl
nothing_left (t ∷ ts) e = absurd (omega arith)

-- the tokens so far, before the result for the rest
abbrev pub prepended : List Token → Result (List Token) Fault → Result (List Token) Fault
prepended done (Err f) = Err f
prepended done (Ok ts) = Ok (done ++ ts)

prepended_nothing : (r : Result (List Token) Fault) → prepended [] r ≡ r
prepended_nothing (Err f) = refl
prepended_nothing (Ok ts) = refl

one_more : (done next : List Token) (t : Token) (r : Result (List Token) Fault) → next ≡ done ++ t ∷ [] → prepended done (after_first t r) ≡ prepended next r
one_more done next t (Err f) longer = refl
one_more done next t (Ok ts) longer = ap Ok (sym (append_assoc done (t ∷ []) ts)) ∙ ap (λ (z : List Token). Ok (z ++ ts)) (sym longer)

-- no token is an operator before a `(`
abbrev pub NoneApplies : List Token → Type 0
NoneApplies [] = Unit {0}
NoneApplies (t ∷ ts) = (applies t ts ≡ false) × NoneApplies ts

no_use : (t : Token) (b : Bool) → is_operator t ≡ false → (b && is_operator t) ≡ false
no_use t true e = e
no_use t false e = refl

pub none_applies : (ts : List Token) → list_any is_operator ts ≡ false → NoneApplies ts
none_applies [] e = tt
none_applies (t ∷ ts) e =
    let p = or_parts (is_operator t) (list_any is_operator ts) e in
    (no_use t (begins_with (codes "(") ts) p.0, none_applies ts p.1)

module _ (search : Search) (row : ℕ) (line : List Token) where
  -- In state s some tokens give those that are done and then what the rest gives in state t, which has another meter.
  pub record ProbesSoFar (s : State) (tokens done : List Token) (t : State) (rest : List Token) : Type 0 where
    pub state : t ≡ with_meter s t.meter
    pub goes_on : (meter_after : Meter) (r : Result (List Token) Fault) → Probes search row line t rest meter_after r → Probes search row line s tokens meter_after (prepended done r)

  pub at_first : (s : State) (tokens : List Token) → ProbesSoFar s tokens [] s tokens
  at_first s tokens = record {
    state = refl;
    goes_on = λ meter_after r p. subst (Probes search row line s tokens meter_after) (sym (prepended_nothing r)) p;
  }

  -- an ordinary token
  pub after_other : (s t : State) (tokens done next rest ts : List Token) (u v : Token)
      → false ≡ applies u ts
      → rest ≡ u ∷ ts
      → v ≡ u
      → next ≡ done ++ v ∷ []
      → ProbesSoFar s tokens done t rest
      → ProbesSoFar s tokens next t ts
  after_other s t tokens done next rest ts u v e split is longer p = record {
    state = p.state;
    goes_on = λ meter_after r probes.
        let here : Probes search row line t (u ∷ ts) meter_after (after_first u r) = Probes.other (sym e) probes in
        let all = p.goes_on meter_after (after_first u r) (subst (λ (z : List Token). Probes search row line t z meter_after (after_first u r)) (sym split) here) in
        subst (Probes search row line s tokens meter_after) (one_more done next u r (longer ∙ ap (λ (z : Token). done ++ z ∷ []) is)) all;
  }

  -- an operator with its operand
  pub after_operator : (s t t' : State) (tokens done next rest ts inside later : List Token) (u v : Token) (a : IncludeName) (end : ℕ)
      → true ≡ applies u ts
      → rest ≡ u ∷ ts
      → inside ≡ drop 1 ts
      → Some end ≡ operand_end inside
      → t' ≡ with_meter t t'.meter
      → NamesOperand t line (take end inside) t'.meter (Ok a)
      → v ≡ number_for u (has_file search row (directory_before u t'.directory) a)
      → next ≡ done ++ v ∷ []
      → later ≡ drop (suc end) inside
      → ProbesSoFar s tokens done t rest
      → ProbesSoFar s tokens next t' later
  after_operator s t t' tokens done next rest ts inside later u v a end e split inner ends_inside same names_inside is longer there_inside p =
      let ends : Some end ≡ operand_end (drop 1 ts) = ends_inside ∙ ap operand_end inner in
      let names : NamesOperand t line (take end (drop 1 ts)) t'.meter (Ok a) = subst (λ (z : List Token). NamesOperand t line (take end z) t'.meter (Ok a)) inner names_inside in
      let there : later ≡ drop (suc end) (drop 1 ts) = there_inside ∙ ap (drop (suc end)) inner in
      let number = number_for u (has_file search row (directory_before u t.directory) a) in
      let told : v ≡ number = is ∙ ap (λ (z : State). number_for u (has_file search row (directory_before u z.directory) a)) same in
      record {
        state = same ∙ ap (λ (z : State). with_meter z t'.meter) p.state;
        goes_on = λ meter_after r probes.
            let following : Probes search row line (with_meter t t'.meter) (drop (suc end) (drop 1 ts)) meter_after r =
            subst (λ (z : State). Probes search row line z (drop (suc end) (drop 1 ts)) meter_after r) same
            (subst (λ (z : List Token). Probes search row line t' z meter_after r) there probes) in
            let here : Probes search row line t (u ∷ ts) meter_after (after_first number r) = Probes.operator a (sym e) (sym ends) names following in
            let all = p.goes_on meter_after (after_first number r) (subst (λ (z : List Token). Probes search row line t z meter_after (after_first number r)) (sym split) here) in
            subst (Probes search row line s tokens meter_after) (one_more done next number r (longer ∙ ap (λ (z : Token). done ++ z ∷ []) told)) all;
      }

  -- ---- the end

  pub at_end : (s t : State) (tokens done rest : List Token) → length rest ≡ 0 → ProbesSoFar s tokens done t rest → Probes search row line s tokens t.meter (Ok done)
  at_end s t tokens done rest none p =
      let all = p.goes_on t.meter (Ok []) (subst (λ (z : List Token). Probes search row line t z t.meter (Ok [])) (sym (nothing_left rest none)) Probes.no_tokens) in
      subst (λ (z : List Token). Probes search row line s tokens t.meter (Ok z)) (append-nil done) all

  pub at_open : (s t : State) (tokens done rest ts inside : List Token) (u : Token)
      → true ≡ applies u ts
      → rest ≡ u ∷ ts
      → inside ≡ drop 1 ts
      → None ≡ operand_end inside
      → ProbesSoFar s tokens done t rest
      → Probes search row line s tokens t.meter (Err (line_fault 30 line []))
  at_open s t tokens done rest ts inside u e split inner none p =
      let here : Probes search row line t (u ∷ ts) t.meter (Err (line_fault 30 line [])) = Probes.unclosed (sym e) (sym (none ∙ ap operand_end inner)) in
      p.goes_on t.meter (Err (line_fault 30 line [])) (subst (λ (z : List Token). Probes search row line t z t.meter (Err (line_fault 30 line []))) (sym split) here)

  pub at_fault : (s t : State) (tokens done rest ts inside : List Token) (u : Token) (end : ℕ) (meter_after : Meter) (f : Fault)
      → true ≡ applies u ts
      → rest ≡ u ∷ ts
      → inside ≡ drop 1 ts
      → Some end ≡ operand_end inside
      → NamesOperand t line (take end inside) meter_after (Err f)
      → ProbesSoFar s tokens done t rest
      → Probes search row line s tokens meter_after (Err f)
  at_fault s t tokens done rest ts inside u end meter_after f e split inner ends names_inside p =
      let names : NamesOperand t line (take end (drop 1 ts)) meter_after (Err f) = subst (λ (z : List Token). NamesOperand t line (take end z) meter_after (Err f)) inner names_inside in
      let here : Probes search row line t (u ∷ ts) meter_after (Err f) = Probes.operand_fault (sym e) (sym (ends ∙ ap operand_end inner)) names in
      p.goes_on meter_after (Err f) (subst (λ (z : List Token). Probes search row line t z meter_after (Err f)) (sym split) here)

  -- Tokens in which no operator applies are unchanged, and that costs nothing.
  pub unprobed : (s : State) (ts : List Token) → NoneApplies ts → Probes search row line s ts s.meter (Ok ts)
  unprobed s [] none = Probes.no_tokens
  unprobed s (t ∷ ts) none = Probes.other none.0 (unprobed s ts none.1)

  pub unprobed_free : (s : State) (ts : List Token) (none : NoneApplies ts) → count_probes (unprobed s ts none) ≡ 0
  unfolding unprobed
  unprobed_free s [] none = refl
  unprobed_free s (t ∷ ts) none = unprobed_free s ts none.1

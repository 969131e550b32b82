-- The invariant of the loop that replaces the uses of `defined` by numbers.
use Rattle.std.proofs.Common.{◌≡◌, true, false, List, [], ◌∷◌, ◌++◌, Some, None, append_assoc, length, arith, sym, ap, ◌∙◌, subst, refl}
use Rattle.std.proofs.lemmas.List.{append-nil}
use Rattle.pptext.specs.declared.tokens.Token.{Token}
use Rattle.ppmacro.specs.Names.{Macros}
use Rattle.ppexpr.specs.DefinedOperator.{is_defined, Operand, operand, defined_value, ReplacesDefined, nothing, other, defined_use}

-- `vs` is `without_defined`, followed by `rest` with its uses of `defined` replaced
pub record Ahead (macros : Macros) (without_defined rest vs : List Token) : Type 0 where
  pub us : List Token
  pub is : vs ≡ without_defined ++ us
  pub replaces : ReplacesDefined macros rest us

-- Replacing `defined` in `tokens` yields `without_defined`, followed by the result for `rest`.
pub record Follows (macros : Macros) (tokens without_defined rest : List Token) : Type 0 where
  pub onward : (us : List Token) → ReplacesDefined macros rest us → ReplacesDefined macros tokens (without_defined ++ us)
  pub back : (vs : List Token) → ReplacesDefined macros tokens vs → Ahead macros without_defined rest vs

pub follows_start : (macros : Macros) (tokens : List Token) → Follows macros tokens [] tokens
follows_start macros tokens = record { onward = λ us h. h; back = λ vs h. record { us = vs; is = refl; replaces = h } }

-- `vs` is the token `u`, followed by `rest` with its uses of `defined` replaced
pub record Begins (macros : Macros) (u : Token) (rest vs : List Token) : Type 0 where
  pub us : List Token
  pub is : vs ≡ u ∷ us
  pub replaces : ReplacesDefined macros rest us

pub begins_other : (macros : Macros) (t : Token) (ts vs : List Token) → is_defined t ≡ false → ReplacesDefined macros (t ∷ ts) vs → Begins macros t ts vs
begins_other macros t ts vs e (other {us = us} f h) = record { us = us; is = refl; replaces = h }
begins_other macros t ts vs e (defined_use f g h) = cc

pub begins_defined : (macros : Macros) (d : Token) (ts vs : List Token) (o : Operand)
    → is_defined d ≡ true
    → operand ts ≡ Some o
    → ReplacesDefined macros (d ∷ ts) vs
    → Begins macros (defined_value macros d o.name) o.rest vs
begins_defined macros d ts vs o e g (other f h) = cc
begins_defined macros d ts vs o e g (defined_use {us = us} {o = p} f k h) =
    let same : o ≡ p = cc in
    subst (λ (q : Operand). ReplacesDefined macros q.rest us → Begins macros (defined_value macros d o.name) o.rest (defined_value macros d q.name ∷ us)) same (λ a. record { us = us; is = refl; replaces = a }) h

pub defined_without_operand : (macros : Macros) (d : Token) (ts vs : List Token) → is_defined d ≡ true → operand ts ≡ None → ReplacesDefined macros (d ∷ ts) vs → ⊥
defined_without_operand macros d ts vs e g (other f h) = cc
defined_without_operand macros d ts vs e g (defined_use f k h) = cc

-- `Follows` after one more replacement step, which yields the token `u`
follows_more : (macros : Macros) (tokens without_defined rest more : List Token) (u : Token) →
    ((us : List Token) → ReplacesDefined macros more us → ReplacesDefined macros rest (u ∷ us)) → ((vs : List Token) → ReplacesDefined macros rest vs → Begins macros u more vs) →
    Follows macros tokens without_defined rest → Follows macros tokens (without_defined ++ u ∷ []) more
follows_more macros tokens without_defined rest more u on from f = record {
  onward = λ us h. rw append_assoc (f.onward (u ∷ us) (on us h));
  back = λ vs h.
      let a : Ahead macros without_defined rest vs = f.back vs h in
      let b : Begins macros u more a.us = from a.us a.replaces in
      record { us = b.us; is = a.is ∙ (ap (λ x. without_defined ++ x) b.is ∙ sym (append_assoc without_defined (u ∷ []) b.us)); replaces = b.replaces };
}

pub follows_other : (macros : Macros) (tokens without_defined next rest ts : List Token) (t u : Token) →
    is_defined t ≡ false → rest ≡ t ∷ ts → u ≡ t → next ≡ without_defined ++ u ∷ [] → Follows macros tokens without_defined rest → Follows macros tokens next ts
follows_other macros tokens without_defined next rest ts t u e split is more f =
    rw more (rw is (follows_more macros tokens without_defined (t ∷ ts) ts t (λ us h. other e h) (λ vs h. begins_other macros t ts vs e h) (rw split at f)))

pub follows_defined : (macros : Macros) (tokens without_defined next rest ts : List Token) (d u : Token) (o : Operand) →
    is_defined d ≡ true → rest ≡ d ∷ ts → operand ts ≡ Some o → u ≡ defined_value macros d o.name → next ≡ without_defined ++ u ∷ [] →
    Follows macros tokens without_defined rest → Follows macros tokens next o.rest
follows_defined macros tokens without_defined next rest ts d u o e split g is more f =
    rw more (rw is (follows_more macros tokens without_defined (d ∷ ts) o.rest (defined_value macros d o.name) (λ us h. defined_use e g h) (λ vs h. begins_defined macros d ts vs o e g h) (rw split at f)))

pub follows_end : (macros : Macros) (tokens without_defined rest : List Token) → length rest ≡ 0 → Follows macros tokens without_defined rest → ReplacesDefined macros tokens without_defined
follows_end macros tokens without_defined [] e f = rw (← append-nil without_defined) (f.onward [] nothing)
follows_end macros tokens without_defined (t ∷ ts) e f = absurd (omega arith)

pub follows_none : (macros : Macros) (tokens without_defined rest ts : List Token) (d : Token) →
    is_defined d ≡ true → rest ≡ d ∷ ts → operand ts ≡ None → Follows macros tokens without_defined rest → (us : List Token) → ¬ ReplacesDefined macros tokens us
follows_none macros tokens without_defined rest ts d e split g f us h =
    let a : Ahead macros without_defined rest us = f.back us h in
    defined_without_operand macros d ts a.us e g (rw split at a.replaces)

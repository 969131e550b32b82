use Rattle.std.proofs.Common.{◌≡◌, ℕ, ◌<◌, List, length, sym, ap, ◌∙◌, subst, MatchOption, Option, None, Some, rules}
use Rattle.std.specs.Prelude.{slice_index_or}
use Rattle.pptext.specs.declared.tokens.Token.{Token}
use Rattle.pptext.specs.Lines.{LogicalLine}
use Rattle.pptext.specs.Guard.{GuardedBy}
use Rattle.pptext.proofs.sources.Source.guard.Goals as goal

abbrev Known : List LogicalLine → List Token → Option ℕ → Type 0
Known lines ts g = MatchOption g ((x : List ℕ) → GuardedBy lines x → ⊥) (λ i. (i < length ts) × ((d : Token) → GuardedBy lines (slice_index_or ts i d).text))

known_none : (lines same : List LogicalLine) (ts : List Token) (g : Option ℕ) → Known lines ts g → g ≡ None → lines ≡ same → (x : List ℕ) → GuardedBy same x → ⊥
known_none lines same ts g k is e = subst (λ (z : List LogicalLine). (x : List ℕ) → GuardedBy z x → ⊥) e (subst (Known lines ts) is k)

known_some : (lines same : List LogicalLine) (ts : List Token) (g : Option ℕ) (i : ℕ) (t : Token) (text : List ℕ)
    → Known lines ts g
    → g ≡ Some i
    → lines ≡ same
    → t ≡ slice_index_or ts i t
    → text ≡ t.text
    → GuardedBy same text
known_some lines same ts g i t text k is e at said =
    let h = (subst (Known lines ts) is k).1 t in
    subst (λ (z : List LogicalLine). GuardedBy z text) e (subst (λ (z : List ℕ). GuardedBy lines z) (ap (λ (u : Token). u.text) (sym at) ∙ sym said) h)

pub returns-in-None-clause-none : goal.returns-in-None-clause-none
returns-in-None-clause-none c = known_none _ c.args.self.now c.self.inside.tokens.items c.self.inside.guard c.self.invariant.3 c.in-None.is c.self.view_is

pub returns-in-Some-clause-some : goal.returns-in-Some-clause-some
returns-in-Some-clause-some c =
    known_some _ c.args.self.now c.self.inside.tokens.items c.self.inside.guard c.in-Some.i c.index.result.now c.as_bytes.result.now c.self.invariant.3 c.in-Some.is c.self.view_is c.index.ensures c.as_bytes.ensures

pub returns-in-Some-clause-none : goal.returns-in-Some-clause-none
returns-in-Some-clause-none c = search rules

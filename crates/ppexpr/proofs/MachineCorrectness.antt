-- The machine computes the outcome of an expression, and fails if the symbols are no expression.
use Rattle.std.proofs.Common.{◌≡◌, ℕ, suc, ◌<◌, ◌≤◌, List, [], length, get_or, drop, refl, sym, ap, subst, ◌∙◌, drop-cons}
use Rattle.std.specs.Prelude.{Option, Some, None, MatchOption, IfSome, option_and_then}
use Rattle.std.proofs.lemmas.List.{drop_all}
use Rattle.ppexpr.specs.declared.symbols.Symbol.{Symbol}
use Rattle.ppexpr.specs.declared.symbols.Evaluation.{Evaluation}
use Rattle.ppexpr.specs.Grammar.{Tree, Leaf, Applied, Joined, Chosen, IsExpression}
use Rattle.ppexpr.specs.Values.{unary_evaluation, binary_evaluation, choice_evaluation, evaluation_of}
use Rattle.ppexpr.specs.Values.{Denotes}
use Rattle.ppexpr.specs.code.Pending.{State, evaluations, step, finish}
use Rattle.ppexpr.proofs.MachineCompleteness.{meaning, complete}
use Rattle.ppexpr.proofs.MachineSoundness.{Means, sound}
use Rattle.ppexpr.proofs.MachineRuns.{run}

meaning-evaluations : (t : Tree) → meaning evaluations t ≡ evaluation_of t
meaning-evaluations (Leaf v) = refl
meaning-evaluations (Applied o t) = ap (λ x. unary_evaluation o x) (meaning-evaluations t)
meaning-evaluations (Joined o t u) = λ i. binary_evaluation o (meaning-evaluations t i) (meaning-evaluations u i)
meaning-evaluations (Chosen t u w) = λ i. choice_evaluation (meaning-evaluations t i) (meaning-evaluations u i) (meaning-evaluations w i)

no_answer : (s : List Symbol) → run evaluations ([], None) s ≡ None → ¬ IsExpression s
no_answer s e = λ x. some_is_none (meaning evaluations x.0) (sym (complete evaluations s x.0 x.1) ∙ e)
  where
    some_is_none : (z : Evaluation) → Some z ≡ None → ⊥
    some_is_none z h = cc

-- The machine's result is the outcome of the symbols, or `None` if they are no expression.
pub exact : (s : List Symbol) (r : Option Evaluation) → run evaluations ([], None) s ≡ r → MatchOption r (¬ IsExpression s) (Denotes s)
exact s None e = no_answer s e
exact s (Some z) e = denoted (subst (λ q. IfSome q (Means evaluations s)) e (sound evaluations s))
  where
    denoted : Means evaluations s z → Denotes s z
    denoted h = (h.0, h.1, sym (meaning-evaluations h.0) ∙ sym h.2)

-- If the machine stops at a symbol, the symbols are no expression.
pub stopped : (s : List Symbol) (p : State Evaluation) (k : ℕ) (d : Symbol)
    → k < length s
    → run evaluations p (drop k s) ≡ run evaluations ([], None) s
    → step evaluations p (get_or s k d) ≡ None
    → ¬ IsExpression s
stopped s p k d h e f =
    let here = ap (run evaluations p) (drop-cons s k d h) in
    no_answer s (sym e ∙ here ∙ ap (λ t. option_and_then (λ q. run evaluations q (drop (suc k) s)) t) f)

-- After the last symbol, `finish` returns the outcome, or `None` if the symbols are no expression.
pub ended : (s : List Symbol) (p : State Evaluation) (k : ℕ) (r : Option Evaluation)
    → length s ≤ k
    → run evaluations p (drop k s) ≡ run evaluations ([], None) s
    → r ≡ finish evaluations p
    → MatchOption r (¬ IsExpression s) (Denotes s)
ended s p k r h e f = exact s r (sym e ∙ ap (run evaluations p) (drop_all k s h) ∙ sym f)

-- The truth value of a condition that consists of uses of `defined` alone.
use Rattle.std.proofs.Common.{◌≡◌, ℕ, ◌≤◌, Bool, true, false, not, ◌&&◌, ◌||◌, List, [], ◌∷◌, ◌++◌, length, Ok, refl, sym, ap, ◌∙◌, subst, true≢false}
use Rattle.std.proofs.Common.{arith, append_assoc, append-nil, codes}
use Rattle.std.proofs.lemmas.Bool.{and_parts}
use Rattle.std.proofs.lemmas.Slice.Eq.{bytes_eq-Decides}
use Rattle.pptext.specs.declared.tokens.Place.{Place}
use Rattle.pptext.specs.declared.tokens.Token.{Token}
use Rattle.pptext.specs.declared.tokens.Kind.{Kind}
use Rattle.pptext.specs.declared.tokens.Kind.TheVariants.{Ident, Number, CharConst, Str, Punct, Header, Other}
use Rattle.pptext.specs.Tokens.{is_punctuator_kind}
use Rattle.ppmacro.specs.Names.{Macros}
use Rattle.ppexpand.specs.code.Lists.{never_expands}
use Rattle.ppexpr.specs.declared.symbols.Symbol.{Symbol}
use Rattle.ppexpr.specs.declared.symbols.Symbol.TheVariants.{Constant, Operator}
use Rattle.ppexpr.specs.declared.operators.Operator.TheVariants as sign
use Rattle.ppexpr.specs.declared.operators.Unary.TheVariants as prefix
use Rattle.ppexpr.specs.declared.operators.Binary.TheVariants as operation
use Rattle.ppexpr.specs.Grammar.{Tree, Leaf, Applied, Joined, Derives, constant, unary, binary, tighter}
use Rattle.ppexpr.specs.Values.{truth, constant_evaluation, unary_evaluation, binary_evaluation}
use Rattle.ppexpr.specs.DefinedOperator.{is_defined}
use Rattle.ppexpr.specs.Tokens.{punctuator, symbol_by}
use Rattle.ppexpr.specs.code.DefinedOnly.{BeginsWith, token, AllRepresent, nothing, more, BeginsPunct, BeginsTruth, HasTruth}
use Rattle.ppexpr.specs.Nesting.{most_levels}
use Rattle.ppexpr.specs.Conditions.{taken, EvaluatesShallow, has_value, not_nested}
use Rattle.ppexpr.proofs.ShortExpressions.{few_shallow}
use Rattle.ppexpr.proofs.UnreplacedConditions.{rest_shorter}

-- ---- punctuators

mark_kind : (k : Kind) → is_punctuator_kind k ≡ true → k ≡ Punct
mark_kind Punct e = refl
mark_kind Ident e = absurd (true≢false (sym e))
mark_kind Number e = absurd (true≢false (sym e))
mark_kind CharConst e = absurd (true≢false (sym e))
mark_kind Str e = absurd (true≢false (sym e))
mark_kind Header e = absurd (true≢false (sym e))
mark_kind Other e = absurd (true≢false (sym e))

mark_undefined : (t : Token) → t.kind ≡ Punct → is_defined t ≡ false
mark_undefined t e = rw e refl

mark_plain : (macros : Macros) (t : Token) → t.kind ≡ Punct → never_expands macros t ≡ true
mark_plain macros t e = rw e refl

-- a punctuator has the symbol of its spelling
begins_mark : (macros : Macros) (ts rest : List Token) (text : List ℕ) (s : Symbol) → punctuator text ≡ s → BeginsPunct text ts rest → BeginsWith macros ts s rest
begins_mark macros ts rest text s e m =
    let parts = and_parts _ _ m.spelled in
    let kind : m.punctuator.kind ≡ Punct = mark_kind m.punctuator.kind parts.0 in
    let spelt : m.punctuator.text ≡ text = (bytes_eq-Decides m.punctuator.text text).0 parts.1 in
    let is_symbol = λ (at : Place). ap (λ k. symbol_by at k m.punctuator.text) kind ∙ ap (λ x. Ok (punctuator x)) spelt ∙ ap (λ x. Ok x) e in
    rw m.is (token (mark_undefined m.punctuator kind) (record { unexpanded = mark_plain macros m.punctuator kind; symbol = is_symbol }))

-- ---- values

negated : (b : Bool) → unary_evaluation prefix.Not (constant_evaluation (truth b)) ≡ constant_evaluation (truth (not b))
unfolding unary_evaluation constant_evaluation
negated true = refl
negated false = refl

both : (a b : Bool) → binary_evaluation operation.And (constant_evaluation (truth a)) (constant_evaluation (truth b)) ≡ constant_evaluation (truth (a && b))
unfolding binary_evaluation constant_evaluation
both true true = refl
both true false = refl
both false true = refl
both false false = refl

either : (a b : Bool) → binary_evaluation operation.Or (constant_evaluation (truth a)) (constant_evaluation (truth b)) ≡ constant_evaluation (truth (a || b))
unfolding binary_evaluation constant_evaluation
either true true = refl
either true false = refl
either false true = refl
either false false = refl

taken_truth : (at : Place) (b : Bool) → taken at (constant_evaluation (truth b)).value ≡ Ok b
unfolding constant_evaluation
taken_truth at true = refl
taken_truth at false = refl

-- ---- one use of `defined`, and uses joined by `&&` or `||`

pub defined_truth : (macros : Macros) (ts rest : List Token) (b : Bool) → BeginsWith macros ts (Constant (truth b)) rest → BeginsTruth macros 12 ts b rest
defined_truth macros ts rest b w = record {
  symbols = Constant (truth b) ∷ [];
  tree = Leaf (truth b);
  onward = λ ss h. more w h;
  derives = tighter {k = 12} (constant (truth b));
  value = refl;
  shorter = rest_shorter macros ts rest (Constant (truth b)) w;
}

pub negated_truth : (macros : Macros) (ts next rest : List Token) (b : Bool)
    → BeginsPunct (codes "!") ts next
    → BeginsWith macros next (Constant (truth b)) rest
    → BeginsTruth macros 12 ts (not b) rest
negated_truth macros ts next rest b m w =
    let v : BeginsWith macros ts (Operator sign.Bang) next = begins_mark macros ts next (codes "!") (Operator sign.Bang) refl m in
    record {
      symbols = Operator sign.Bang ∷ Constant (truth b) ∷ [];
      tree = Applied prefix.Not (Leaf (truth b));
      onward = λ ss h. more v (more w h);
      derives = unary sign.Bang prefix.Not refl (tighter {k = 12} (constant (truth b)));
      value = negated b;
      shorter = omega (arith, rest_shorter macros ts next (Operator sign.Bang) v, rest_shorter macros next rest (Constant (truth b)) w);
    }

-- A unary expression is an expression of level 4, the level of a right operand of `&&`.
as_operand : {s : List Symbol} {t : Tree} → Derives 12 s t → Derives 4 s t
as_operand d = tighter {k = 4} (tighter {k = 5} (tighter {k = 6} (tighter {k = 7} (tighter {k = 8} (tighter {k = 9} (tighter {k = 10} (tighter {k = 11} d)))))))

pub as_conjunction : (macros : Macros) (ts rest : List Token) (b : Bool) → BeginsTruth macros 12 ts b rest → BeginsTruth macros 3 ts b rest
as_conjunction macros ts rest b x = record {
  symbols = x.symbols;
  tree = x.tree;
  onward = x.onward;
  derives = tighter {k = 3} (as_operand x.derives);
  value = x.value;
  shorter = x.shorter;
}

pub as_disjunction : (macros : Macros) (ts rest : List Token) (b : Bool) → BeginsTruth macros 3 ts b rest → BeginsTruth macros 2 ts b rest
as_disjunction macros ts rest b x = record {
  symbols = x.symbols;
  tree = x.tree;
  onward = x.onward;
  derives = tighter {k = 2} x.derives;
  value = x.value;
  shorter = x.shorter;
}

pub and_truth : (macros : Macros) (ts rest next far : List Token) (a b h : Bool)
    → h ≡ (a && b)
    → BeginsTruth macros 3 ts a rest
    → BeginsPunct (codes "&&") rest next
    → BeginsTruth macros 12 next b far
    → BeginsTruth macros 3 ts h far
and_truth macros ts rest next far a b h e x m y =
    let w : BeginsWith macros rest (Operator sign.And) next = begins_mark macros rest next (codes "&&") (Operator sign.And) refl m in
    record {
      symbols = x.symbols ++ Operator sign.And ∷ y.symbols;
      tree = Joined operation.And x.tree y.tree;
      onward = λ ss h. rw append_assoc (x.onward (Operator sign.And ∷ (y.symbols ++ ss)) (more w (y.onward ss h)));
      derives = binary sign.And (record { operation = operation.And; level = 3 }) refl x.derives (as_operand y.derives);
      value = (λ i. binary_evaluation operation.And (x.value i) (y.value i)) ∙ (both a b ∙ ap (λ c. constant_evaluation (truth c)) (sym e));
      shorter = omega (arith, x.shorter, rest_shorter macros rest next (Operator sign.And) w, y.shorter);
    }

pub or_truth : (macros : Macros) (ts rest next far : List Token) (a b h : Bool)
    → h ≡ (a || b)
    → BeginsTruth macros 2 ts a rest
    → BeginsPunct (codes "||") rest next
    → BeginsTruth macros 3 next b far
    → BeginsTruth macros 2 ts h far
or_truth macros ts rest next far a b h e x m y =
    let w : BeginsWith macros rest (Operator sign.Or) next = begins_mark macros rest next (codes "||") (Operator sign.Or) refl m in
    record {
      symbols = x.symbols ++ Operator sign.Or ∷ y.symbols;
      tree = Joined operation.Or x.tree y.tree;
      onward = λ ss h. rw append_assoc (x.onward (Operator sign.Or ∷ (y.symbols ++ ss)) (more w (y.onward ss h)));
      derives = binary sign.Or (record { operation = operation.Or; level = 2 }) refl x.derives y.derives;
      value = (λ i. binary_evaluation operation.Or (x.value i) (y.value i)) ∙ (either a b ∙ ap (λ c. constant_evaluation (truth c)) (sym e));
      shorter = omega (arith, x.shorter, rest_shorter macros rest next (Operator sign.Or) w, y.shorter);
    }

-- ---- the whole list

few_symbols : (macros : Macros) (ts : List Token) (ss : List Symbol) → AllRepresent macros ts ss → length ss ≤ length ts
few_symbols macros ts ss nothing = omega arith
few_symbols macros ts ss (more {rest = rest} {s = s} {ss = qs} b h) = omega (arith, rest_shorter macros ts rest s b, few_symbols macros rest qs h)

none_left : (rest : List Token) → length rest ≡ 0 → rest ≡ []
none_left [] e = refl
none_left (t ∷ ts) e = absurd (omega arith)

pub has_truth : (macros : Macros) (ts rest : List Token) (b : Bool) → length ts ≤ most_levels → length rest ≡ 0 → BeginsTruth macros 2 ts b rest → HasTruth macros ts b
has_truth macros ts rest b short e x =
    let represents : AllRepresent macros ts x.symbols = rw (← append-nil x.symbols) (x.onward [] (rw (none_left rest e) nothing)) in
    record {
      symbols = x.symbols;
      represents = represents;
      evaluated = λ at. not_nested (few_shallow x.symbols (omega (arith, short, few_symbols macros ts x.symbols represents)))
          (subst (EvaluatesShallow at x.symbols) (taken_truth at b) (has_value (x.tree, tighter {k = 0} (tighter {k = 1} x.derives), x.value)));
    }

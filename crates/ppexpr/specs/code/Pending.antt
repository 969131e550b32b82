-- The parser's stack of what waits for its last operand, and its steps: vocabulary of the code. No definition rests on this file: the grammar alone
-- says what an expression is.
use Rattle.std.specs.Prelude.{◌≡◌, ℕ, Bool, List, [], ◌∷◌, Option, Some, None, nat_le, if◌then◌else◌}
use Rattle.ppexpr.specs.declared.symbols.Value.{Value}
use Rattle.ppexpr.specs.declared.symbols.Evaluation.{Evaluation}
use Rattle.ppexpr.specs.declared.symbols.Symbol.{Symbol}
use Rattle.ppexpr.specs.declared.symbols.Symbol.TheVariants.{Constant, Operator, Open, Close, Question, Colon}
use Rattle.ppexpr.specs.Operators.{unary_of, binary_of}
use Rattle.ppexpr.specs.declared.operators.Unary.{Unary}
use Rattle.ppexpr.specs.declared.operators.Binary.{Binary}
use Rattle.ppexpr.specs.declared.operators.Infix.{Infix}
use Rattle.ppexpr.specs.declared.parsing.Frame.{Frame}
use Rattle.ppexpr.specs.declared.parsing.Frame.TheVariants.{Group, Sign, Left, Test, Arms}
use Rattle.ppexpr.specs.Values.{constant_evaluation, unary_evaluation, binary_evaluation, choice_evaluation}

-- What trees are evaluated to: evaluations, or the trees themselves.
pub record Meaning (A : Type 0) : Type 0 where
  pub leaf : Value → A
  pub applied : Unary → A → A
  pub joined : Binary → A → A → A
  pub chosen : A → A → A → A

abbrev pub evaluations : Meaning Evaluation
evaluations = record { leaf = constant_evaluation; applied = unary_evaluation; joined = binary_evaluation; chosen = choice_evaluation }

-- the level of the expression that the frame becomes with its last operand; 0 if a closing symbol must come first
abbrev pub frame_level : {A : Type 0} → Frame A → ℕ
frame_level Group = 0
frame_level (Sign o) = 12
frame_level (Left o x) = o.level
frame_level (Test x) = 0
frame_level (Arms x y) = 1

abbrev pub completed : {A : Type 0} → Meaning A → Frame A → A → A
completed m Group z = z
completed m (Sign o) z = m.applied o z
completed m (Left o x) z = m.joined o.operation x z
completed m (Test x) z = z
completed m (Arms x y) z = m.chosen x y z

-- After an operand, the frames of this level or tighter have all their operands. These are the frames that stay, and what the operand becomes.
abbrev pub unreduced : {A : Type 0} → ℕ → List (Frame A) → List (Frame A)
unreduced p [] = []
unreduced p (f ∷ fs) = if nat_le p (frame_level f) then unreduced p fs else (f ∷ fs)

abbrev pub reduced : {A : Type 0} → Meaning A → ℕ → List (Frame A) → A → A
reduced m p [] z = z
reduced m p (f ∷ fs) z = if nat_le p (frame_level f) then reduced m p fs (completed m f z) else z

-- the frames, the innermost first, and the operand that was just read, if any
abbrev pub State : Type 0 → Type 0
State A = List (Frame A) × Option A

abbrev pub after_sign : {A : Type 0} → List (Frame A) → Option Unary → Option (State A)
after_sign fs None = None
after_sign fs (Some o) = Some (Sign o ∷ fs, None)

abbrev pub after_operator : {A : Type 0} → Meaning A → List (Frame A) → A → Option Infix → Option (State A)
after_operator m fs z None = None
after_operator m fs z (Some o) = Some (Left o (reduced m o.level fs z) ∷ unreduced o.level fs, None)

abbrev pub after_colon : {A : Type 0} → List (Frame A) → A → Option (State A)
after_colon (Test x ∷ fs) z = Some (Arms x z ∷ fs, None)
after_colon fs z = None

abbrev pub after_close : {A : Type 0} → List (Frame A) → A → Option (State A)
after_close (Group ∷ fs) z = Some (fs, Some z)
after_close fs z = None

abbrev pub after_last : {A : Type 0} → List (Frame A) → A → Option A
after_last [] z = Some z
after_last (f ∷ fs) z = None

-- one more symbol
abbrev pub step : {A : Type 0} → Meaning A → State A → Symbol → Option (State A)
step m (fs, None) (Constant v) = Some (fs, Some (m.leaf v))
step m (fs, None) Open = Some (Group ∷ fs, None)
step m (fs, None) (Operator o) = after_sign fs (unary_of o)
step m (fs, None) s = None
step m (fs, Some z) (Operator o) = after_operator m fs z (binary_of o)
step m (fs, Some z) Question = Some (Test (reduced m 2 fs z) ∷ unreduced 2 fs, None)
step m (fs, Some z) Colon = after_colon (unreduced 1 fs) (reduced m 1 fs z)
step m (fs, Some z) Close = after_close (unreduced 1 fs) (reduced m 1 fs z)
step m (fs, Some z) s = None

-- the parser reads the symbol, or there is no step
abbrev pub ParserTakes : State Evaluation → Symbol → Bool → State Evaluation → Type 0
ParserTakes old s accepted new = step evaluations old s ≡ (if accepted then Some new else None)

abbrev pub finish : {A : Type 0} → Meaning A → State A → Option A
finish m (fs, None) = None
finish m (fs, Some z) = after_last (unreduced 1 fs) (reduced m 1 fs z)

-- Steps that fail: how a fault or a failed allocation is returned, also by a public call.
use Rattle.std.proofs.Common.{◌≡◌, Result, Ok, Err, IfOk, sym, subst}
use Rattle.std.specs.Result.{IsErrAnd}
use Rattle.pptext.specs.declared.tokens.Fault.{Fault}
use Rattle.pptext.specs.declared.error.Error.{Error}
use Rattle.pptext.specs.declared.error.Error.TheVariants.{Fault as Faulted, Memory as OutOfMemory}
use Rattle.pptext.specs.Errors.{Raises, Returns, UnlessOutOfMemory, split_memory}

-- If a part of a step satisfies `Returns`, so does the step that returns the part's error.
pub stops : {A B C D : Type 0} (r : Result C Error) (y : Error) (m : A → B) (n : C → D) (v : Result B Fault) (w : Result D Fault)
    → IsErrAnd r (λ e. e ≡ y)
    → Returns (Err y) m v
    → ((f : Fault) → Err f ≡ v → Err f ≡ w)
    → Returns r n w
stops (Ok c) y m n v w e a raised = absurd e
stops (Err x) y m n v w e a raised = at x y e a
  where
    at : (x y : Error) → x ≡ y → Returns (Err y) m v → Returns (Err x) n w
    at x (Faulted f) e a = rw e (raised f a)
    at x OutOfMemory e a = rw e tt

-- As `stops`, with `UnlessOutOfMemory` for the part and for the step.
pub stopped : {A C : Type 0} (r : Result C Error) (y : Error) (P : Result A Fault → Type 0) (Q : Result C Fault → Type 0)
    → IsErrAnd r (λ e. e ≡ y)
    → UnlessOutOfMemory (Err y) P
    → ((f : Fault) → P (Err f) → Q (Err f))
    → UnlessOutOfMemory r Q
stopped (Ok c) y P Q e p raised = absurd e
stopped (Err x) y P Q e p raised = at x y e p
  where
    at : (x y : Error) → x ≡ y → UnlessOutOfMemory (Err y) P → UnlessOutOfMemory (Err x) Q
    at x (Faulted f) e p = rw e (raised f p)
    at x OutOfMemory e p = rw e tt

-- As `stops`, with `Returns` for the part and `UnlessOutOfMemory` for the step.
pub raises : {A B C : Type 0} (r : Result C Error) (y : Error) (m : A → B) (v : Result B Fault) (Q : Result C Fault → Type 0)
    → IsErrAnd r (λ e. e ≡ y)
    → Returns (Err y) m v
    → ((f : Fault) → Err f ≡ v → Q (Err f))
    → UnlessOutOfMemory r Q
raises (Ok c) y m v Q e a raised = absurd e
raises (Err x) y m v Q e a raised = at x y e a
  where
    at : (x y : Error) → x ≡ y → Returns (Err y) m v → UnlessOutOfMemory (Err x) Q
    at x (Faulted f) e a = rw e (raised f a)
    at x OutOfMemory e a = rw e tt

-- `UnlessOutOfMemory` of P implies `UnlessOutOfMemory` of each weaker property.
pub if_settled-weaker : {A : Type 0} (r : Result A Error) (P Q : Result A Fault → Type 0)
    → ((x : Result A Fault) → P x → Q x)
    → UnlessOutOfMemory r P
    → UnlessOutOfMemory r Q
if_settled-weaker (Ok a) P Q more p = more (Ok a) p
if_settled-weaker (Err (Faulted f)) P Q more p = more (Err f) p
if_settled-weaker (Err OutOfMemory) P Q more p = tt

-- A step that returns the error of a fault returns the fault, unless an allocation failed.
pub raised : {A : Type 0} (e : Error) (f : Fault) (P : Result A Fault → Type 0) → Raises e f → P (Err f) → UnlessOutOfMemory (Err e) P
raised (Faulted g) f P same p = subst (λ f. P (Err f)) (sym same) p
raised OutOfMemory f P same p = tt

-- ---- public functions

pub settles : {A : Type 0} (r : Result A Error) (P : Result A Fault → Type 0) → UnlessOutOfMemory r P → IfOk (split_memory r) P
settles (Ok a) P p = p
settles (Err (Faulted f)) P p = p
settles (Err OutOfMemory) P p = tt

pub split_memory-if_ok : {A : Type 0} (r : Result A Error) (P : A → Type 0) → IfOk r P → IfOk (split_memory r) (λ a. IfOk a P)
split_memory-if_ok (Ok a) P p = p
split_memory-if_ok (Err (Faulted f)) P p = tt
split_memory-if_ok (Err OutOfMemory) P p = tt

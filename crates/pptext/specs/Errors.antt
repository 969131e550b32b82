-- The results of a step: a value, a fault, or a failed allocation.
use Rattle.std.specs.Prelude.{◌≡◌, Result, Ok, Err}
use Rattle.pptext.specs.declared.tokens.Fault.{Fault}
use Rattle.std.specs.declared.alloc.AllocError.{AllocError as Memory}
use Rattle.pptext.specs.declared.error.Error.{Error}
use Rattle.pptext.specs.declared.error.Error.TheVariants.{Fault as Faulted, Memory as OutOfMemory}

-- The result agrees with the specified one: a value by its meaning, and a fault exactly. After a failed allocation, nothing is required.
abbrev pub Returns : {A B : Type 0} → Result A Error → (A → B) → Result B Fault → Type 0
Returns (Ok a) meaning value = Ok (meaning a) ≡ value
Returns (Err (Faulted f)) meaning value = Err f ≡ value
Returns (Err OutOfMemory) meaning value = Unit {0}

-- unless an allocation failed, this holds for the value or the fault
abbrev pub UnlessOutOfMemory : {A : Type 0} → Result A Error → (Result A Fault → Type 0) → Type 0
UnlessOutOfMemory (Ok a) P = P (Ok a)
UnlessOutOfMemory (Err (Faulted f)) P = P (Err f)
UnlessOutOfMemory (Err OutOfMemory) P = Unit {0}

-- the error of this fault: the fault exactly, unless an allocation failed
abbrev pub Raises : Error → Fault → Type 0
Raises (Faulted f) fault = f ≡ fault
Raises OutOfMemory fault = Unit {0}

-- the result with the fault in the value, so that a failed allocation is the only error
abbrev pub split_memory : {A : Type 0} → Result A Error → Result (Result A Fault) Memory
split_memory (Ok a) = Ok (Ok a)
split_memory (Err (Faulted f)) = Ok (Err f)
split_memory (Err OutOfMemory) = Err (record {})

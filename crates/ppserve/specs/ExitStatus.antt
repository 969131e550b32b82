-- Exit statuses and error messages.
use Rattle.std.specs.Prelude.{ℕ, ◌==◌, ◌++◌, List, Bool, true, false, Result, Ok, Err, codes, if◌then◌else◌}
use Rattle.ppserve.specs.declared.serving.RunFault.{RunFault}
use Rattle.ppserve.specs.declared.serving.RunFault.TheVariants as fault

abbrev pub status_of : Result Bool RunFault → ℕ
status_of (Ok false) = 0
status_of (Ok true) = 1
status_of (Err (fault.List number)) = 3
status_of (Err fault.Memory) = 4
status_of (Err fault.Read) = 5
status_of (Err fault.Write) = 5

-- the name of a refusal, which has one of the numbers 1 to 11
abbrev pub refusal_name : ℕ → List ℕ
refusal_name number =
    if number == 1 then codes " L1" else (
    if number == 2 then codes " L2" else (
    if number == 3 then codes " L3" else (
    if number == 4 then codes " L4" else (
    if number == 5 then codes " L5" else (
    if number == 6 then codes " L6" else (
    if number == 7 then codes " L7" else (
    if number == 8 then codes " L8" else (
    if number == 9 then codes " L9" else (
    if number == 10 then codes " L10" else (
    if number == 11 then codes " L11" else codes ""))))))))))

abbrev pub words_of : RunFault → List ℕ
words_of (fault.List number) = codes "cppunits: list refused" ++ refusal_name number
words_of fault.Memory = codes "cppunits: out of memory"
words_of fault.Read = codes "cppunits: read failed"
words_of fault.Write = codes "cppunits: write failed"

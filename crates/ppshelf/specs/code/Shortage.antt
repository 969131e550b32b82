-- Errors of the system that say nothing about a file. Only this crate cites it.
use Rattle.std.specs.Prelude.{◌≡◌, Some, pos, ◌⊎◌}
use Rattle.std.specs.IoError.{error_kind, raw_os_error}
use Rattle.std.specs.declared.io.Error.{Error}
use Rattle.std.specs.declared.io.ErrorKind.TheVariants.{OutOfMemory}

-- The system has no memory left, or no file descriptor: Linux's error 23 if none is left in the whole system, 24 if
-- none is left in the process
abbrev pub IsShortage : Error → Type 0
IsShortage e = (error_kind e ≡ OutOfMemory) ⊎ ((raw_os_error e ≡ Some (pos 23)) ⊎ (raw_os_error e ≡ Some (pos 24)))

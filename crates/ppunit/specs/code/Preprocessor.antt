-- What the preprocessor of a unit keeps from call to call. Only contracts of private functions cite this.
use Rattle.std.specs.Prelude.{◌≡◌}
use Rattle.ppshelf.specs.Files.{Extends}
use Rattle.ppshelf.specs.declared.disk.Disk.{Ghosts}
use Rattle.ppunit.specs.declared.preprocessor.Preprocessor.{Preprocessor}

-- the context and the pass are the same as before, and the pass has seen at least the files that it had seen
pub record KeepsContext {D : Type 0} {g : Ghosts D} (old new : Preprocessor D g) : Type 0 where
  pub context : new.context.now ≡ old.context.now
  pub pass : new.pass.ghost_name ≡ old.pass.ghost_name
  pub grows : Extends new.pass.now.files old.pass.now.files

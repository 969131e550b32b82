use Rattle.std.proofs.Common.{◌≡◌, All, length, true}
use Rattle.ppshelf.specs.Files.{Extends}
use Rattle.pppool.specs.Desk.{claims_of}
use Rattle.pppool.specs.code.Workers.{AllFilled, FitSlots}
use Rattle.pppool.proofs.run_units.collect.Given as goal

abbrev pub invariant-loop-finished : goal.invariant-loop-finished
invariant-loop-finished g l =
    (l.pass.shelf ≡ l.job.shelf.now)
    × Extends l.pass.files l.initial.pass.files
    × All (λ s. s.desk ≡ l.job.desk.now) l.seats.items
    × FitSlots l.job.retain l.job.shelf.now l.pass.files l.job.setting.now l.job.units.now l.slots.items
    × AllFilled (length l.job.units.now) l.job.block (claims_of l.seats.items) l.slots.items
    × All (λ s. s.found_empty ≡ true) l.seats.items
    × (length l.seats.items ≡ length l.yielded)

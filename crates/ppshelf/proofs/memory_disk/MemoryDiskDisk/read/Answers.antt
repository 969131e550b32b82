use Rattle.ppshelf.proofs.InitialShelf.{found, skipped}
use Rattle.std.proofs.Common.{arith, ◌∙◌, ap, sym, subst, List, rules}
use Rattle.std.proofs.lemmas.Bool.{false≢true}
use Rattle.ppshelf.specs.Content.{readable}
use Rattle.ppshelf.specs.MemoryFiles.{IsFileContent}
use Rattle.ppshelf.specs.declared.memory_disk.File.{File}
use Rattle.ppshelf.proofs.memory_disk.MemoryDiskDisk.read.Goals as goal

pub returns-then-has_name-clause-bytes : goal.returns-then-has_name-clause-bytes
returns-then-has_name-clause-bytes c =
    let P : List File → Type 0 = λ xs. IsFileContent xs c.args.name.now (readable c.in-Ok.bytes.items) in
    subst P c.deref-file-items.ensures.value (c.loop-file.invariant (readable c.in-Ok.bytes.items)
    (found c.deref-file-items.result.now c.loop-file.file-index c.file-item.result c.args.name.now (readable c.in-Ok.bytes.items) (omega arith) c.file-item.is
    (c.has_name.ensures.0 c.if-has_name.true) (ap readable (c.in-Ok.ensures.items ∙ c.as_slice.ensures.value))))

pub loop-file-preserved : goal.loop-file-preserved
loop-file-preserved c x later =
    c.loop-file.invariant x (skipped c.deref-file-items.result.now c.loop-file.file-index c.file-item.result c.args.name.now x (omega arith) c.file-item.is (λ e. false≢true (sym c.if-has_name.false ∙ c.has_name.ensures.1 e)) later)

pub returns-clause-bytes : goal.returns-clause-bytes
returns-clause-bytes c = search rules

use Rattle.std.proofs.Common.{true, false}
use Rattle.ppserve.specs.Contents.{AreInList, ArePermitted}
use Rattle.ppserve.proofs.Delivery.{serves_of}
use Rattle.ppserve.proofs.serving.serve.Goals as goal

pub returns-in_ok-list-in-None-clause-ok : goal.returns-in_ok-list-in-None-clause-ok
returns-in_ok-list-in-None-clause-ok g c =
    rw c.in-None.is (serves_of true AreInList c.args.options.mode c.in_ok-list-in-None.list _ c.in_ok-list-in-None.ensures.ok c.run_with_contents.ensures)

pub returns-in_ok-list-in-Some-clause-ok : goal.returns-in_ok-list-in-Some-clause-ok
returns-in_ok-list-in-Some-clause-ok g c =
    rw c.in-Some.is (serves_of false (ArePermitted g.D.Disk.may) c.args.options.mode c.in_ok-list-in-Some.list _ c.in_ok-list-in-Some.ensures.ok c.run_with_disk.ensures)

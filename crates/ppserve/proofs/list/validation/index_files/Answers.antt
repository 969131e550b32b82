use Rattle.std.proofs.Common.{◌≡◌, ◌∙◌, ap, refl, inr, List, ℕ, length, arith}
use Rattle.std.specs.String.{string_bytes}
use Rattle.std.proofs.lemmas.List.{length-map}
use Rattle.ppshelf.proofs.NameRows.{next_name, put_fails, test_fails, test_of_names}
use Rattle.ppserve.specs.Listing.{names_of}
use Rattle.ppserve.specs.Drafts.{DraftFile}
use Rattle.ppserve.proofs.NameIndexing.{Turn, switch_to}
use Rattle.ppserve.proofs.list.validation.index_files.Goals as goal

abbrev name_of : DraftFile → List ℕ
name_of f = f.name

pub returns-then-not-new-clause-err : goal.returns-then-not-new-clause-err
returns-then-not-new-clause-err c =
    let files = c.args.files.now in
    let row = c.loop-file.file-index in
    let index = c.loop-file.index.names in
    let name = string_bytes c.in_ok-name.name in
    let t : Turn files row index name =
    switch_to files row index c.file-item.result name c.loop-file-test.true c.file-item.is (c.in_ok-name.ensures.ok ∙ (c.as_str.ensures ∙ ap name_of c.file.view_is)) c.loop-file.invariant in
    inr (
      refl,
      test_fails (names_of files) row t.within
          (put_fails (names_of files) row name index c.push.new.self.names t.names t.within t.name_is c.in_ok-new.new c.if-not-new.true c.in_ok-new.ensures.put),
    )

pub loop-file-preserved : goal.loop-file-preserved
loop-file-preserved c =
    let files = c.args.files.now in
    let row = c.loop-file.file-index in
    let index = c.loop-file.index.names in
    let name = string_bytes c.in_ok-name.name in
    let t : Turn files row index name =
    switch_to files row index c.file-item.result name c.loop-file-test.true c.file-item.is (c.in_ok-name.ensures.ok ∙ (c.as_str.ensures ∙ ap name_of c.file.view_is)) c.loop-file.invariant in
    next_name (names_of files) row name index c.push.new.self.names t.names t.within t.name_is c.in_ok-new.new c.if-not-new.false c.in_ok-new.ensures.put

pub returns-clause-ok : goal.returns-clause-ok
returns-clause-ok c =
    let files = c.args.files.now in
    let all = c.loop-file-test.false in
    let count : length (names_of files) ≡ length files = length-map files name_of in
    test_of_names (names_of files) (λ row within. c.loop-file.invariant.good row (omega arith))

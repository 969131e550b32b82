use Rattle.ppshelf.proofs.ObservedContents.{lawful_files, filled_files, content_of_sight}
use Rattle.std.proofs.Common.{ap, ◌∙◌, sym, length}
use Rattle.std.proofs.lemmas.List.{length-map}
use Rattle.ppshelf.specs.Files.{PassView}
use Rattle.ppshelf.proofs.shelf.Pass.contents_permitted.Goals as goal

pub returns : goal.returns
returns g c = record {
  contents_permitted = rw (← c.self.view_is) (lawful_files g.D.Disk.may _ _ c.self.invariant.0);
  filled = rw (← c.self.view_is) (filled_files g.D.Disk.may _ _ c.self.invariant.0);
  rows = ap (λ (k : PassView). length k.files) (sym c.self.view_is) ∙ (length-map c.self.inside.rows.items content_of_sight ∙ (c.self.invariant.0.len ∙ ap (λ (k : PassView). length k.shelf.names) c.self.view_is));
}

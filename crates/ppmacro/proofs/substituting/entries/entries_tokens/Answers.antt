use Rattle.std.proofs.Common.{arith, ◌<◌, length, ◌≡◌, ◌∙◌, ◌+◌, refl, sym, ap, ◌∷◌, drop, map, not, ◌||◌, ◌&&◌, Ok}
use Rattle.ppmacro.specs.HideSets.{hidings}
use Rattle.ppmacro.specs.Entries.{entry_chain}
use Rattle.ppmacro.specs.Substitution.{chain_tokens, chains_tokens}
use Rattle.ppmacro.specs.Substituting.{arguments_in}
use Rattle.ppmacro.specs.code.Replacing.{pushed}
use Rattle.ppmacro.proofs.ChainReplacementLemmas.{marked_behind, drop-item, chains-pushed}
use Rattle.ppmacro.proofs.substituting.entries.entries_tokens.Goals as goal

pub loop-index-preserved : goal.loop-index-preserved
loop-index-preserved c =
    let s = c.args.sets.now in
    let i = c.loop-index.index in
    let es = c.args.list.now in
    let entry = c.at-entry.result in
    let chain = entry_chain entry in
    let pending = c.loop-index.pending in
    let first = c.loop-index.first in
    let front = hidings s c.loop-index.tokens.items in
    let new = c.push_entry.new.tokens.items in
    let args = arguments_in s c.args.arguments.given.now c.args.arguments.expanded.now in
    let space = c.space_before-leading.ensures ∙ ap (λ own. pending || (not first && own)) c.space_of.ensures in
    let below : i < length es = omega (arith, c.loop-index-test.true, c.len-index-end.ensures) in
    let next : drop i es ≡ entry ∷ drop (i + 1) es = drop-item es i entry below (c.at-entry.ensures entry) in
    record {
      same = λ used.
          (let made : Ok (record { tokens = hidings s new; pending = c.in_ok-pending.pending }) ≡ pushed front (pending || (not first && chain.space)) (chain_tokens args used chain) =
          c.in_ok-pending.ensures.is used ∙ (λ j. pushed front (space j) (chain_tokens args used chain)) in
          chains-pushed args used pending first chain (map entry_chain (drop (i + 1) es)) front (hidings s new) c.in_ok-pending.pending (chain_tokens args used chain) refl made
          ∙ ap (λ ds. marked_behind front (chains_tokens args used pending first (map entry_chain ds))) (sym next)
          ∙ c.loop-index.invariant.same used);
      tokens_known = c.in_ok-pending.ensures.known;
    }

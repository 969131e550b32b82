use Rattle.std.proofs.Common.{◌≡◌, true, map, take}
use Rattle.ppmacro.specs.Substituting.{tokens_of}
use Rattle.ppunit.specs.declared.units.Item.TheVariants as item
use Rattle.ppprint.specs.code.Held.{are_parts, held_tokens}
use Rattle.ppserve.specs.code.TextPieces.{PutsItems}
use Rattle.ppserve.proofs.text_output.put_hidden_tokens.Given as goal

abbrev pub invariant-loop-token : goal.invariant-loop-token
invariant-loop-token g l =
    record {
      held : are_parts 0 (held_tokens l.text.held) ≡ true;
      items : PutsItems g.W.Sink.written g.W.Sink.has_failed l.initial.writer l.writer l.initial.buf l.buf
          l.initial.text.printer (held_tokens l.initial.text.held) (map item.Token (tokens_of (take l.token-index l.tokens))) l.text.printer (held_tokens l.text.held);
    }

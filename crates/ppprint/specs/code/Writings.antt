-- Borrowed spellings as the definitions have them.
use Rattle.ppprint.specs.Apart.{Written}
use Rattle.ppprint.specs.declared.apart.Written.{Written as WrittenRef}

abbrev pub written_of : WrittenRef → Written
written_of w = record { kind = w.kind; text = w.text.now }

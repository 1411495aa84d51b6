-- `dump::files::name_of` meets its contract: each byte of a name is ASCII.
use Rattle.std.proofs.Common.{arith}
use Rattle.std.proofs.lemmas.Str.{IsUtf8-from_ascii}
use Rattle.std.proofs.lemmas.Str.Ascii.{IsAscii-cons, IsAscii-nil}
use Rattle.dump.proofs.files.name_of.Goals as goal

pub returns : goal.returns
returns c = IsUtf8-from_ascii _ (search (arith, IsAscii-cons, IsAscii-nil))

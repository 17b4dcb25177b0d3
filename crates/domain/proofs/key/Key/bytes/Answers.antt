use Rattle.std.proofs.Common.{rules}
use Rattle.domain.specs.Keys.{bytes_of}
use Rattle.domain.proofs.key.Key.bytes.Goals as goal

pub returns : goal.returns
unfolding bytes_of
returns c = search rules

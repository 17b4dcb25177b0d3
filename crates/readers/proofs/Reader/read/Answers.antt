use Rattle.std.proofs.Common.{refl}
use Rattle.readers.proofs.Scans.{made}
use Rattle.readers.proofs.Reader.read.Goals as goal

pub returns : goal.returns
returns g c =
    let f = g.F.Format in
    let scan = g.F.Scan.Reading in
    let laws = g.met.F.Format in
    let q = rw c.begin.ensures.is at c.in_ok-end.ensures.is in
    made f.begun scan.stepped scan.complete f.said f.stated f.tallies laws.starts laws.adds laws.closes _ _ _ _ _ c.in_ok-account.ensures c.if-text-gt-LONGEST.false q _ c.lines_from.ensures refl c.head.ensures

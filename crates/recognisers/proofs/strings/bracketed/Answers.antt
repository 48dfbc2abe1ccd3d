use Rattle.recognisers.specs.Text.{byte, bytes}
use Rattle.recognisers.specs.Strings.{closed_by}
use Rattle.recognisers.proofs.FirstBytes.{opened}
use Rattle.recognisers.proofs.Unclosed.{square_known}
use Rattle.recognisers.proofs.strings.bracketed.Goals as goal

pub quoted_known-requires : goal.quoted_known-requires
quoted_known-requires c = square_known _ _ c.args.rest.truthful

pub returns-in-SQLServer : goal.returns-in-SQLServer
returns-in-SQLServer c = rw c.in-SQLServer.is (search (opened (byte "[") (closed_by (byte "]") (bytes "]"))))

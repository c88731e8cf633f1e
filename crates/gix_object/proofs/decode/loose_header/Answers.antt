use Rattle.gix_object.proofs.HeaderLemmas.{read-exact, read-found, read-invalid, read-length, read-only, read-within}
use Rattle.gix_object.proofs.decode.loose_header.Goals as goal

pub returns-clause-found : goal.returns-clause-found
returns-clause-found c = rw (c.ok_or.ensures.value, c.header_in.ensures.header) (read-found _ c.args.bytes.now)

pub returns-clause-length : goal.returns-clause-length
returns-clause-length c = rw (c.ok_or.ensures.value, c.header_in.ensures.header) (read-length _ c.args.bytes.now)

pub returns-clause-within : goal.returns-clause-within
returns-clause-within c = rw (c.ok_or.ensures.value, c.header_in.ensures.header) (read-within _ c.args.bytes.now)

pub returns-clause-only : goal.returns-clause-only
returns-clause-only c = rw (c.ok_or.ensures.value, c.header_in.ensures.header) (read-only _ c.args.bytes.now)

pub returns-clause-invalid : goal.returns-clause-invalid
returns-clause-invalid c = rw (c.ok_or.ensures.value, c.header_in.ensures.header) (read-invalid _ c.args.bytes.now)

pub returns-clause-exact : goal.returns-clause-exact
returns-clause-exact c = rw (c.ok_or.ensures.value, c.header_in.ensures.header) (read-exact _ c.args.bytes.now)

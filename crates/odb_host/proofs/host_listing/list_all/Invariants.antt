use Rattle.std.proofs.Common.{List, Result}
use Rattle.std.specs.List.{AllZip}
use Rattle.odb_host.specs.HostListing.{IsFoundIn, IsListing}
use Rattle.odb_host.specs.declared.host_listing.Found.{Found}
use Rattle.odb_host.specs.declared.host_listing.Unnamed.{Unnamed}
use Rattle.odb_host.proofs.host_listing.list_all.Given as goal

abbrev pub invariant-loop-name : goal.invariant-loop-name
invariant-loop-name g l = (found : List (Result Found Unnamed)) × AllZip IsFoundIn l.yielded found × IsListing l.most found l.listing

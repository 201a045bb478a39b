-- What contracts see of the code's signatures.
use Rattle.isle_places.specs.declared.signatures.Signature.{Signature as CodeSignature}
use Rattle.isle_places.specs.Signatures.{Signature, type_names}

-- what a function takes and answers
abbrev pub signature : CodeSignature → Signature
signature s = record { params = type_names s.params.now; results = s.results.now; kind = s.kind }

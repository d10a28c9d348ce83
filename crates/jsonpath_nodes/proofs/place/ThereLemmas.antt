-- The value at a location, as a function of the document.
use Rattle.std.specs.Prelude.{Option}
use Rattle.jsonpath_nodes.specs.document.Document.{Document}
use Rattle.jsonpath_nodes.specs.place.Location.{Location, at}

abbrev pub there : Location → Document → Option Document
there l d = at d l

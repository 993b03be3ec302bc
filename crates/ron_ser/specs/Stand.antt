-- The place at which code writes.
use Rattle.ron_ser_config.specs.View.{config_view}
use Rattle.ron_ser.specs.declared.writing.Writing.{Writing}
use Rattle.ron_ser.specs.Lent.{lent_docs}
use Rattle.ron_ser.specs.Place.{Place, level_of}

-- what code hands on, seen as a place
unfoldable pub place_of : Writing → Place
place_of w = record { config = config_view w.config.now; extensions = w.extensions; level = level_of w.config.now.depth_limit w.level; docs = lent_docs w.docs }

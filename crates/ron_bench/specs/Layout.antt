-- The configurations of the layouts that are timed.
use Rattle.ron.specs.Config.{Config, no_config, default_config}
use Rattle.ron_bench.specs.declared.layout.Layout.{Layout}
use Rattle.ron_bench.specs.declared.layout.Layout.TheVariants.{Compact, Pretty}

abbrev pub configuration : Layout → Config
configuration Compact = no_config
configuration Pretty = default_config

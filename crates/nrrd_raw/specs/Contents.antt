-- What a line says, and how its parts are found.
use Rattle.std.specs.Str.{str_to_ascii_lowercase}
use Rattle.iso_formats.specs.HeaderLines as lines
use Rattle.nrrd_raw.specs.declared.lines.content.Content.{Content}
use Rattle.nrrd_raw.specs.declared.lines.content.Content.TheVariants.{PassedOver, Field, Unreadable}

-- a field's name is seen in lower case
abbrev pub content_view : Content → lines.Content
content_view PassedOver = lines.passed_over
content_view (Field name value) = lines.named_field (str_to_ascii_lowercase name.now) value.now
content_view Unreadable = lines.unreadable

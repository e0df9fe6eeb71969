-- The content of a key as that of an element, and what stands in it.
use Rattle.std.specs.Prelude.{ℕ, List, Option, None, Some}
use Rattle.per_base.specs.declared.elements.Content.{Content}
use Rattle.per_base.specs.declared.elements.Content.TheVariants as content
use Rattle.key_maps.specs.declared.key_elements.KeyContent.{KeyContent}
use Rattle.key_maps.specs.declared.key_elements.KeyContent.TheVariants.{Good, Bad}

-- the content of a key as that of an element: a stored value is shown as its encoding
abbrev pub content_shown : KeyContent → Content
content_shown (Good stored) = content.Good stored
content_shown (Bad salvage) = content.Bad salvage

-- the encoding of a readable content, and none of an unreadable one
abbrev pub good_bytes : Content → Option (List ℕ)
good_bytes (content.Good bytes) = Some bytes
good_bytes (content.Bad salvage) = None

-- the salvage of an unreadable content, where it has one, and none of a readable one
abbrev pub salvage_in : Content → Option (List ℕ)
salvage_in (content.Good bytes) = None
salvage_in (content.Bad salvage) = salvage

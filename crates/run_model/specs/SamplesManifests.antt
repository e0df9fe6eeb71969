-- Courses that begin with the text of a manifest, computed.
use Rattle.std.specs.Prelude.{◌≡◌, ℕ, List, [], ◌∷◌, None, Ok, Err, refl, codes}
use Rattle.std.specs.Float.Numeral.{scan_numeral}
use Rattle.std.specs.Fmt.{digits}
use Rattle.std.specs.Str.{chars, is_utf8}
use lib.Utf8.{encode}
use Rattle.per_base.specs.declared.errors.PerError.TheVariants as error
use Rattle.json.specs.Json.{items, members, value}
use Rattle.json.specs.Lex.{lex, punctuate}
use Rattle.json.specs.Text.{code_unit, short_escape, content}
use Rattle.json.specs.Word.{after_number, word}
use Rattle.manifest.specs.Contents.{element_said, storage_said, deployment_said}
use Rattle.manifest.specs.Parts.{storages, elements, name_in, named, version_in, minimum_in, maximum_in}
use Rattle.manifest.specs.Parts.{collection_said, scope_said, strategy_said, collection_in, read_only_in, agreeing_in}
use Rattle.manifest.specs.Parts.{copies_in, scope_in, strategy_in, type_in, key_bytes, file_bytes, initial_in}
use Rattle.manifest.specs.Reading.{value_of, broken_rule, deployment_in}
use Rattle.manifest.specs.Rules.{is_an_object, has_version, lists_storages, has_known_members, has_few_storages}
use Rattle.manifest.specs.Rules.{has_storage_members, storages_have_known_members, is_named, are_named, names_differ}
use Rattle.manifest.specs.Rules.{has_sizes, sizes_are_in_range, has_minimum_below, minimums_are_below}
use Rattle.manifest.specs.Rules.{maximums_fit_together, has_collection_strategy, collections_have_strategies}
use Rattle.manifest.specs.Rules.{says_read_only, read_only_is_said, has_redundancy, redundancies_are_objects}
use Rattle.manifest.specs.Rules.{has_counts, redundancies_have_counts, has_few_elements, elements_are_few}
use Rattle.manifest.specs.Rules.{has_element_members, elements_have_known_members, has_different_elements}
use Rattle.manifest.specs.Rules.{elements_differ, has_type, keys_have_types, may_start, initials_are_read, has_strategy}
use Rattle.manifest.specs.Rules.{elements_have_strategies, initial_size, has_room, initials_fit, first_violated}
use Rattle.serde_json.specs.Read.{number_of as number_of_read}
use Rattle.value_text.specs.Limits.{keeps_limits}
use Rattle.value_text.specs.Parsing.{scalar_at, list_kind_at, fields_kind_at, kind_here, kind_at, kind_in, text_at}
use Rattle.value_text.specs.Parsing.{value_content_at, scalar_tree_at, items_at, list_tree_at, fields_tree_at}
use Rattle.value_text.specs.Parsing.{tree_here}
use Rattle.value_text.specs.Parsing.{tree_at, tree_in, value_in}
use Rattle.value_text.specs.Readers.{number_of, number_at, unsigned_at, signed_at, hex_bytes_at, quoted_at, separated}
use Rattle.value_text.specs.Whole.{unsigned_in, signed_in, bytes_in}
use Rattle.command_text.specs.declared.calls.Call.TheVariants as call
use Rattle.command_text.specs.declared.calls.Event.TheVariants as event
use Rattle.command_text.specs.declared.replies.Answer.TheVariants as answer
use Rattle.command_text.specs.declared.replies.Reply.{Reply}
use Rattle.command_text.specs.Replies.{reply_text}
use Rattle.deploy_rows.specs.Rows.{deployment_of, offered}
use Rattle.run_model.specs.Samples.{computed, replies, world_after, on, fav, home, favourites, first_version}
use Rattle.run_model.specs.Samples.{second_version, at_version_two}
use Rattle.run_model.specs.Worlds.{World, app_of, formatted}

-- all that a manifest is read with
unfoldable pub manifests_read : ℕ
unfolding computed deployment_of digits chars is_utf8 encode scan_numeral element_said storage_said deployment_said
    storages elements name_in named version_in minimum_in maximum_in collection_said scope_said strategy_said
    collection_in read_only_in agreeing_in copies_in scope_in strategy_in type_in key_bytes file_bytes initial_in
    value_of broken_rule deployment_in is_an_object has_version lists_storages has_known_members has_few_storages
    has_storage_members storages_have_known_members is_named are_named names_differ has_sizes sizes_are_in_range
    has_minimum_below minimums_are_below maximums_fit_together has_collection_strategy collections_have_strategies
    says_read_only read_only_is_said has_redundancy redundancies_are_objects has_counts redundancies_have_counts
    has_few_elements elements_are_few has_element_members elements_have_known_members has_different_elements
    elements_differ has_type keys_have_types may_start initials_are_read has_strategy elements_have_strategies
    initial_size has_room initials_fit first_violated keeps_limits scalar_at list_kind_at fields_kind_at kind_here
    kind_at kind_in text_at value_content_at scalar_tree_at items_at list_tree_at fields_tree_at tree_here tree_at
    tree_in value_in number_of number_at unsigned_at signed_at hex_bytes_at quoted_at separated unsigned_in signed_in
    bytes_in number_of_read items members value lex punctuate code_unit short_escape content after_number word
manifests_read = 0

-- ---- what the texts say

abbrev pub favourites_text : List ℕ
favourites_text =
    codes
    "{\"version\":1,\"keyValueStorages\":[{\"name\":\"fav\",\"keyValuePairs\":[{\"name\":\"home\",\"type\":\"u16\",\"initial\":\"u16:513\"}]}]}"

abbrev pub first_text : List ℕ
first_text =
    codes
    "{\"version\":1,\"keyValueStorages\":[{\"name\":\"s\",\"keyValuePairs\":[{\"name\":\"conv\",\"type\":\"u16\",\"initial\":\"u16:4\"},{\"name\":\"gone\",\"type\":\"u8\",\"initial\":\"u8:3\"},{\"name\":\"keep\",\"type\":\"u8\",\"initial\":\"u8:1\"},{\"name\":\"over\",\"type\":\"u8\",\"initial\":\"u8:2\"}]}]}"

abbrev pub second_text : List ℕ
second_text =
    codes
    "{\"version\":2,\"keyValueStorages\":[{\"name\":\"s\",\"keyValuePairs\":[{\"name\":\"conv\",\"type\":\"u32\",\"initial\":\"u32:14\"},{\"name\":\"gone\",\"type\":\"u8\",\"updateStrategy\":\"delete\"},{\"name\":\"keep\",\"type\":\"u8\",\"initial\":\"u8:11\"},{\"name\":\"new\",\"type\":\"bool\",\"initial\":\"bool:true\"},{\"name\":\"over\",\"type\":\"u8\",\"initial\":\"u8:12\",\"updateStrategy\":\"overwrite\"}]}]}"

abbrev pub cut_text : List ℕ
cut_text = codes "{\"version\":1"

favourites_said : deployment_of favourites_text ≡ Ok favourites
unfolding manifests_read
favourites_said = refl

first_said : deployment_of first_text ≡ Ok first_version
unfolding manifests_read
first_said = refl

second_said : deployment_of second_text ≡ Ok second_version
unfolding manifests_read
second_said = refl

-- ---- installing

installed_so : replies formatted (on (call.Install favourites_text) ∷ on (call.OpenKvs fav) ∷ on (call.Get fav home)
    ∷ on (call.Size fav) ∷ on (call.Keys fav) ∷ on (call.Install favourites_text) ∷ [])
    ≡ codes "ok\nok\nvalue u16:513\nnumber 7\nnames home\nerror 21 AlreadyInstalled\n"
unfolding manifests_read
installed_so = refl

-- a text that is no JSON
rejected_so : replies formatted (event.App 1 (call.Install cut_text) ∷ event.App 1 call.Status ∷ [])
    ≡ codes "error 22 ManifestRejected 2\nstatus absent\n"
unfolding manifests_read
rejected_so = refl

-- ---- an update that is no newer

abbrev pub rolled_back_once : World
rolled_back_once = world_after at_version_two (on call.Rollback ∷ [])

abbrev pub not_newer : Reply
not_newer = record { reports = []; answer = answer.Error (error.VersionNotNewer 1 1) }

not_newer_text : reply_text not_newer ≡ codes "error 28 VersionNotNewer 1 1\n"
unfolding manifests_read
not_newer_text = refl

-- the first version is offered beside itself
not_newer_again : offered None first_text (app_of rolled_back_once 0).disk ≡ Err (error.VersionNotNewer 1 1)
unfolding manifests_read
not_newer_again = refl

-- and the second version is, once more
newer_again : offered None second_text (app_of rolled_back_once 0).disk
    ≡ Ok (record {
      generation = 4;
      active = record { bank = 0; deployment = first_version };
      manifest = second_text;
      deployment =
          second_version;
    })
unfolding manifests_read
newer_again = refl

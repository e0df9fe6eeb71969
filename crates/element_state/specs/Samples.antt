-- Storages that compute: one that opens, one with a text that was never its own, an index of format 1, and seven copies
-- of which four must agree.
use Rattle.std.specs.Prelude.{◌≡◌, ℕ, ◌%◌, List, [], ◌∷◌, Some, None, nat_eq, cond, codes, true, false, Bool}
use Rattle.std.proofs.Common.{refl, arith}
use Rattle.sha2.specs.Sha256.{sha256, digest_bytes, hash_after, compress, rounds, schedule, first_words}
use Rattle.per_base.specs.declared.elements.Scope.TheVariants as scope
use Rattle.per_base.specs.declared.elements.StoreKind.TheVariants.{Keys}
use Rattle.per_base.specs.declared.elements.Content.{Content}
use Rattle.per_base.specs.declared.elements.Content.TheVariants.{Good, Bad}
use Rattle.hash_guard.specs.SealedText.{sealed, numbered, verified, generation_in, length_in}
use Rattle.disk_model.specs.Image.{Image}
use Rattle.disk_model.specs.Orders.{named_in}
use Rattle.m_of_n.specs.Vote.{voted}
use Rattle.guarded_cell.specs.Held.{held_in_first}
use Rattle.block_files.specs.Contents.{counting}
use Rattle.index_text.specs.declared.entries.Index.{Index}
use Rattle.index_text.specs.Spelling.{index_text, entry_text}
use Rattle.per_base.specs.Fields.{many, bytes_at, number_at}
use Rattle.per_base.specs.declared.elements.Change.TheVariants.{Put}
use Rattle.index_text.specs.Reading.{index_of, header_at, entry_at, name_at, info_at, file_info_at, cause_at}
use Rattle.index_text.specs.Reading.{changed_at, len_at}
use Rattle.element_state.specs.declared.shapes.Shape.{Shape}
use Rattle.element_state.specs.declared.shapes.View.{View}
use Rattle.element_state.specs.Fit.{fit_index, fit_texts}
use Rattle.element_state.specs.Views.{entry_view, view_of}
use Rattle.element_state.specs.States.{Opens, Corrupt, store_at}
use Rattle.element_state.specs.Changes.{committed_by}

-- all that the samples compute with
unfoldable computed : ℕ
unfolding voted sealed numbered verified generation_in length_in held_in_first counting index_text entry_text index_of
    header_at
    entry_at name_at info_at file_info_at cause_at changed_at len_at many bytes_at number_at fit_index fit_texts
    entry_view view_of store_at sha256 digest_bytes hash_after compress rounds schedule first_words
computed = 0

abbrev one_copy : Shape
one_copy = record {
  name = codes "s";
  place = record {
    first = 0;
    copies = 1;
    some = omega arith;
    few =
        omega arith;
    room = omega arith;
  };
  kind = Keys;
  m = 1;
  scope = scope.Element;
  allowed = 64;
}

empty_is_corrupt : store_at (λ f. []) one_copy ≡ Corrupt None []
unfolding computed
empty_is_corrupt = refl

-- one key of three bytes in one block
abbrev key : (format changed : ℕ) → (name value : List ℕ) → (block : ℕ) → Index
unfolding computed
key format changed name value block = record {
  format = format;
  kind = Keys;
  entries =
      record { name = name; info = None; changed = changed; len = 3; hash = sha256 value; blocks = block ∷ [] } ∷ [];
}

no_key : Index
no_key = record { format = 2; kind = Keys; entries = [] }

abbrev seen_key : (generation changed : ℕ) → (sole : Bool) → List ℕ → Content → List ℕ → View
seen_key generation changed sole name content lacking = record {
  generation = generation;
  lacking = [];
  sole = sole;
  entries = record { name = name; info = None; changed = changed; len = 3; content = content; lacking = lacking } ∷ [];
}

-- ---- three zero bytes in the last block of an area without bytes

abbrev far : Image
unfolding computed
far f = cond (nat_eq f 0) (sealed 2 (index_text (key 2 1 (codes "a") (0 ∷ 0 ∷ 0 ∷ []) 2047))) []

far_opens : store_at far one_copy ≡ Opens (seen_key 2 1 true (codes "a") (Good (0 ∷ 0 ∷ 0 ∷ [])) (1 ∷ [])) []
unfolding computed
far_opens = refl

-- ---- a text that was never the storage's comes up when the slot of the other is lost

abbrev two_texts : Image
unfolding computed no_key
two_texts f = cond (nat_eq f 0) (sealed 2 (index_text no_key))
    (cond (nat_eq f 1) (sealed 1 (index_text (key 2 1 (codes "a") (2 ∷ 1 ∷ 0 ∷ []) 0)))
    (cond (nat_eq f 2) (2 ∷ 1 ∷ 0 ∷ []) []))

abbrev one_text : Image
one_text f = cond (nat_eq f 0) [] (two_texts f)

two_open : store_at two_texts one_copy
    ≡ Opens (record { generation = 2; lacking = []; sole = false; entries = [] })
    (seen_key 1 1 false (codes "a") (Good (2 ∷ 1 ∷ 0 ∷ [])) [] ∷ [])
unfolding computed no_key
two_open = refl

one_opens : store_at one_text one_copy ≡ Opens (seen_key 1 1 true (codes "a") (Good (2 ∷ 1 ∷ 0 ∷ [])) []) []
unfolding computed no_key
one_opens = refl

-- ---- an index of format 1, and a commit over it

abbrev first_format : Image
unfolding computed
first_format f = cond (nat_eq f 1) (sealed 1 (index_text (key 1 0 (codes "home") (3 ∷ 1 ∷ 2 ∷ []) 0)))
    (cond (nat_eq f 2) (3 ∷ 1 ∷ 2 ∷ []) [])

abbrev home : View
home = seen_key 1 0 true (codes "home") (Good (3 ∷ 1 ∷ 2 ∷ [])) []

first_opens : store_at first_format one_copy ≡ Opens home []
unfolding computed
first_opens = refl

-- the element that was there keeps the number 0
both : committed_by one_copy home (Put (record { name = codes "work"; info = None; bytes = 7 ∷ [] }) ∷ [])
    ≡ record {
      generation = 2;
      lacking = [];
      sole = true;
      entries = record {
        name = codes "home";
        info = None;
        changed = 0;
        len = 3;
        content =
            Good (3 ∷ 1 ∷ 2 ∷ []);
        lacking = [];
      }
          ∷ record { name = codes "work"; info = None; changed = 2; len = 1; content = Good (7 ∷ []); lacking = [] }
          ∷ [];
    }
unfolding committed_by
both = refl

-- ---- seven copies, of which four must agree

abbrev seven_copies : Shape
seven_copies = record {
  name = codes "s";
  place = record {
    first = 1024;
    copies = 7;
    some = omega arith;
    few =
        omega arith;
    room = omega arith;
  };
  kind = Keys;
  m = 4;
  scope = scope.Element;
  allowed = 64;
}

-- the areas of these files are spoiled
abbrev spoiled : List ℕ → Image
unfolding computed
spoiled files f = cond (named_in files f) (252 ∷ 254 ∷ 253 ∷ [])
    (cond (nat_eq (f % 4) 0) (sealed 2 (index_text (key 2 2 (codes "home") (3 ∷ 1 ∷ 2 ∷ []) 0)))
    (cond (nat_eq (f % 4) 2) (3 ∷ 1 ∷ 2 ∷ []) []))

three_spoiled : store_at (spoiled (1026 ∷ 1030 ∷ 1034 ∷ [])) seven_copies
    ≡ Opens (seen_key 2 2 true (codes "home") (Good (3 ∷ 1 ∷ 2 ∷ [])) (1 ∷ 2 ∷ 3 ∷ [])) []
unfolding computed
three_spoiled = refl

four_spoiled : store_at (spoiled (1026 ∷ 1030 ∷ 1034 ∷ 1038 ∷ [])) seven_copies
    ≡ Opens (seen_key 2 2 true (codes "home") (Bad (Some (3 ∷ 1 ∷ 2 ∷ []))) (1 ∷ 2 ∷ 3 ∷ 4 ∷ [])) []
unfolding computed
four_spoiled = refl

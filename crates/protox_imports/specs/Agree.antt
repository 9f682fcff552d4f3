-- Rows that mean what the names of files mean.
use Rattle.std.specs.Prelude.{◌↔◌, ℕ, List, length}
use Rattle.protox_descriptor.specs.declared.descriptor.FileDescriptorProto.{FileDescriptorProto}
use Rattle.protox_imports.specs.Imports.{Imports, ImportsPublicly}
use Rattle.protox_imports.specs.Rows.{ImportsIn, PassesOnIn}
use Rattle.protox_imports.specs.Sees.{Sees}
use Rattle.protox_imports.specs.Order.{IsInOrder, IsCycle}
use Rattle.protox_imports.specs.declared.row.FileImports.{FileImports}

-- What the rows make of orders, of cycles and of what a file sees is what the names make of them.
pub record Agree (set : List FileDescriptorProto) (rows : List FileImports) : Type 0 where
  pub orders : (order : List ℕ)
      → IsInOrder (ImportsIn rows) (length rows) order ↔ IsInOrder (Imports set) (length set) order
  pub cycles : (files : List ℕ) → IsCycle (ImportsIn rows) files ↔ IsCycle (Imports set) files
  pub sights : (f h : ℕ)
      → Sees (ImportsIn rows) (PassesOnIn rows) f h ↔ Sees (Imports set) (ImportsPublicly set) f h
